use Rattle.{check_receiver.proofs.Comparing.IsGathered, std.proofs.Common.length}
use Rattle.check_receiver.proofs.arriving.are_same.Given as goal

abbrev pub invariant-loop-one : goal.invariant-loop-one
invariant-loop-one l = IsGathered l.left l.right (length l.yielded) l.differing
