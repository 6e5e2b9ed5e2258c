use Rattle.std.proofs.Common.{refl}
use Rattle.two_wire.proofs.{Keeping.stays-apart, Keeping.talks-deafly, Sharing.all-heard}
use Rattle.two_wire.specs.{Gate.gated, Gate.at_rest, Wires.on_wires}
use Rattle.two_wire.proofs.Ends.{gated-long}
use Rattle.two_wire.proofs.laws.gates_may_lag.Goals as goal

pub returns : goal.returns
returns c = λ side kept waits lag before ticks others covers same turns.
    stays-apart side kept waits lag covers before
    (gated side waits at_rest ticks (on_wires lag others)) ticks others others others refl same refl
    refl turns
    (talks-deafly side kept waits lag covers before
    (gated side waits at_rest ticks (on_wires lag others)) others turns)
    (all-heard (gated side waits at_rest ticks (on_wires lag others)) others
    (gated-long side waits lag ticks others same))
