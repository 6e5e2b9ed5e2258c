use Rattle.{dnp_link_frame.specs.Beginnings.user_in_blocks, std.proofs.Common.◌≡◌}
use Rattle.dnp_link_frame.proofs.parsing.user_in_blocks.Given as goal

abbrev pub invariant-loop-n : goal.invariant-loop-n
invariant-loop-n l = l.user.items ≡ user_in_blocks l.n l.bytes
