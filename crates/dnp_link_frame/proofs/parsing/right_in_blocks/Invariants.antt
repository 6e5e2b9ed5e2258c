use Rattle.dnp_link_frame.proofs.Loops.{AreRight}
use Rattle.dnp_link_frame.proofs.parsing.right_in_blocks.Given as goal

abbrev pub invariant-loop-n : goal.invariant-loop-n
invariant-loop-n l = AreRight l.n l.user_len l.bytes
