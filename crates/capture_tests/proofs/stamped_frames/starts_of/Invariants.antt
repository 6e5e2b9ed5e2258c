use Rattle.{device_model.specs.RtuFamily.ticks_heard, std.proofs.Common.◌≡◌}
use Rattle.capture_tests.proofs.stamped_frames.starts_of.Given as goal

abbrev pub invariant-loop-tick : goal.invariant-loop-tick
invariant-loop-tick l = ticks_heard l.device.family ≡ l.tick-index
