use Rattle.{device_model.proofs.Runs.IsQuiet, std.proofs.Common.map, std.proofs.Common.take}
use Rattle.yasir_ticks.specs.declared.tick.Tick.TheVariants.{Byte}
use Rattle.device_model.proofs.device.Device.hear.Given as goal

abbrev pub invariant-loop-at : goal.invariant-loop-at
invariant-loop-at g l =
    IsQuiet g.Self.Device.stands g.Self.Device.reads g.Self.Device.taken l.fn.self l.self
    (λ n. map (λ b. Byte b) (take n l.bytes)) l.at
