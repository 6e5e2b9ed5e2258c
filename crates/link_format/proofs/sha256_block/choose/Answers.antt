use Rattle.{link_format.proofs.WordBits.ch_short, std.proofs.Common.arith}
use Rattle.link_format.proofs.sha256_block.choose.Goals as goal

pub returns : goal.returns
returns c = ch_short c.args.x c.args.y c.args.z (omega arith) (omega arith) (omega arith)
