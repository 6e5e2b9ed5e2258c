use Rattle.link_format.proofs.Sha256Blocks.{shifts_rotate}
use Rattle.link_format.proofs.sha256_block.rotated.Goals as goal

pub returns : goal.returns
returns c = shifts_rotate c.args.by c.requires.0 c.requires.1 c.args.x c.fits-x.0
