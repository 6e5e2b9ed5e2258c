use Rattle.{device_model.proofs.Runs.IsQuiet, yasir_ticks.specs.Ticks.silent}
use Rattle.device_model.proofs.device.Device.wait.Given as goal

abbrev pub invariant-loop-at : goal.invariant-loop-at
invariant-loop-at g l =
    IsQuiet g.Self.Device.stands g.Self.Device.reads g.Self.Device.taken l.fn.self l.self
    (λ n. silent n) l.at
