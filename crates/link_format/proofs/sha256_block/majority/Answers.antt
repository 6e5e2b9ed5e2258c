use Rattle.link_format.proofs.WordBits.{maj_short}
use Rattle.link_format.proofs.sha256_block.majority.Goals as goal

pub returns : goal.returns
returns c = maj_short c.args.x c.args.y c.args.z
