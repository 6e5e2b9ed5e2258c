use Rattle.link_format.proofs.Sha256Blocks.{sigma_lanes}
use Rattle.link_format.proofs.sha256_block.small_sigma0.Goals as goal

pub returns : goal.returns
returns c = rw (c.rotated.ensures, c.rotated-2.ensures) (sigma_lanes 7 18 3 c.args.x c.fits-x.0)
