-- What a two-wire box consists of, and with which ticks it drives both pairs of wires now.
use Rattle.yasir_ticks.specs.declared.tick.Tick.{Tick}
use Rattle.duplex_box.specs.declared.pair.BoxPair.{BoxPair}
use Rattle.two_wire.specs.Gate.{gate_state, gate_side, gate_waits, lets, let_through}
use Rattle.two_wire.specs.declared.gate.Gate.{Gate}
use Rattle.two_wire_box.specs.declared.end_box.TwoWire.{TwoWire}

abbrev pub pair_of : {S C : Type 0} → TwoWire S C → BoxPair S C
pair_of value = value.pair

abbrev pub gate_of : {S C : Type 0} → TwoWire S C → Gate
gate_of value = value.gate

-- the ticks that the receiver and the transmitter returned last
abbrev pub for_device : {S C : Type 0} → TwoWire S C → Tick
for_device value = value.for_device

abbrev pub link_now : {S C : Type 0} → TwoWire S C → Tick
link_now value = value.for_link

-- the tick with which the box drives the wires to its device now
abbrev pub device_now : {S C : Type 0} → TwoWire S C → Tick
device_now value = let_through value.for_device
    (lets (gate_side value.gate) (gate_waits value.gate) (gate_state value.gate))
