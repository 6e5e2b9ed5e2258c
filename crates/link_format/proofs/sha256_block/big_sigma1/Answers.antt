use Rattle.{link_format.proofs.WordBits.rotated_three, std.proofs.Common.arith}
use Rattle.link_format.proofs.sha256_block.big_sigma1.Goals as goal

pub returns : goal.returns
returns c = rw (c.rotate_right-3.ensures, c.rotate_right-2.ensures, c.rotate_right.ensures)
    (rotated_three c.args.x 6 5 14 (omega arith) (omega arith) (omega arith) (omega arith)
    (omega arith))
