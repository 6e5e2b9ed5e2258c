use Rattle.{frame_ending.specs.Stands.ticks_taken, std.proofs.Common.◌≡◌}
use Rattle.line_tests.proofs.bursts.cuts.Given as goal

abbrev pub invariant-loop-tick : goal.invariant-loop-tick
invariant-loop-tick g l = ticks_taken l.cut ≡ l.tick-index
