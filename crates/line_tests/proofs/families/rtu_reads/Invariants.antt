use Rattle.{device_model.specs.RtuFamily.ticks_heard, std.proofs.Common.◌≡◌}
use Rattle.line_tests.proofs.families.rtu_reads.Given as goal

abbrev pub invariant-loop-at : goal.invariant-loop-at
invariant-loop-at l = ticks_heard l.device ≡ l.at
