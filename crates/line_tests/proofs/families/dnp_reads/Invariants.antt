use Rattle.{device_model.specs.HuntFamily.family_ticks, std.proofs.Common.◌≡◌}
use Rattle.line_tests.proofs.families.dnp_reads.Given as goal

abbrev pub invariant-loop-at : goal.invariant-loop-at
invariant-loop-at l = family_ticks l.device ≡ l.at
