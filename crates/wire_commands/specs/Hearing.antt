-- What a port hears of wires, where not all that it drives them with is known yet.
use Rattle.std.specs.Prelude.{◌≡◌, List, [], ◌∷◌}
use Rattle.yasir_ticks.specs.declared.tick.Tick.{Tick}
use Rattle.yasir_ticks.specs.declared.tick.Tick.TheVariants.{Silent}
use Rattle.two_wire.specs.Gate.{GateState, gate_after}
use Rattle.two_wire.specs.Wires.{heard}
use Rattle.two_wire.specs.declared.gate.Side.{Side}
use Rattle.two_wire.specs.declared.gate.Waits.{Waits}

-- Holds if a port hears this tick for sure, if these are the ticks of its own from there on that
-- are known: where none is, only silence is sure, and only while the wires are silent.
abbrev pub SurelyHearsTick : List Tick → Tick → Tick → Type 0
SurelyHearsTick [] wire run = (wire ≡ Silent) × (run ≡ Silent)
SurelyHearsTick (own ∷ known) wire run = run ≡ heard own wire

-- Holds if a port that drives the wires with these ticks first, and nobody knows with what then,
-- surely hears this run of them.
abbrev pub SurelyHears : List Tick → List Tick → List Tick → Type 0
SurelyHears known wires [] = Unit {0}
SurelyHears known [] (run ∷ runs) = ⊥
SurelyHears [] (wire ∷ wires) (run ∷ runs) =
    SurelyHearsTick [] wire run × SurelyHears [] wires runs
SurelyHears (own ∷ known) (wire ∷ wires) (run ∷ runs) =
    SurelyHearsTick (own ∷ known) wire run × SurelyHears known wires runs

-- what a gate knows after these ticks of its receiver, while those are heard of the others
abbrev pub gate_through : Side → Waits → GateState → List Tick → List Tick → GateState
gate_through side waits g [] others = g
gate_through side waits g (tick ∷ ticks) [] = g
gate_through side waits g (tick ∷ ticks) (other ∷ others) =
    gate_through side waits (gate_after side waits g tick other) ticks others
