use Rattle.std.proofs.Common.{◌≡◌}
use Rattle.line_tests.proofs.spacers.answers.Given as goal

abbrev pub invariant-loop-at : goal.invariant-loop-at
invariant-loop-at g l = g.B.Spaces.taken l.spacer ≡ l.at
