use Rattle.std.proofs.Common.{◌≡◌, ◌+◌, length}
use Rattle.yasir_ticks.specs.TickRun.{run_ticks}
use Rattle.line_tests.proofs.owed_answers.hear_run.Given as goal

abbrev pub invariant-loop-following : goal.invariant-loop-following
invariant-loop-following g l = g.B.Spaces.taken l.spacer + length (run_ticks l.following)
    ≡ g.B.Spaces.taken l.fn.spacer + length (run_ticks l.run)

abbrev pub decreases-loop-following : goal.decreases-loop-following
decreases-loop-following g l = length (run_ticks l.following)
