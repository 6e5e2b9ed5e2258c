use Rattle.std.proofs.Common.{◌≡◌}
use Rattle.line_tests.proofs.devices.reads.Given as goal

abbrev pub invariant-loop-at : goal.invariant-loop-at
invariant-loop-at g l = g.D.Device.taken l.device ≡ l.at
