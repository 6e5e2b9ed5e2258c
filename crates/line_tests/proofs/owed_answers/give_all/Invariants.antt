use Rattle.std.proofs.Common.{◌≡◌}
use Rattle.line_tests.proofs.owed_answers.give_all.Given as goal

abbrev pub invariant-loop-given : goal.invariant-loop-given
invariant-loop-given g l = g.B.Spaces.taken l.spacer ≡ g.B.Spaces.taken l.fn.spacer

abbrev pub decreases-loop-given : goal.decreases-loop-given
decreases-loop-given g l = l.given.owed
