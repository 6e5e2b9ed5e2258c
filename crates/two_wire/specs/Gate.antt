-- The gate between a receiver and the wires of a device. The box speaks there for the side that is
-- far away: for the one that asks, if devices that answer are on the wires, and for the one that
-- answers, if a master is. The gate lets a burst through whole, or not at all.
use Rattle.std.specs.Prelude.{ℕ, suc, nat_le, Bool, true, false, not, ◌&&◌, List, [], ◌∷◌, ◌++◌}
use Rattle.std.specs.Prelude.{if◌then◌else◌}
use Rattle.yasir_ticks.specs.declared.TheConstants.{T1_5_TICKS}
use Rattle.yasir_ticks.specs.declared.tick.Tick.{Tick}
use Rattle.yasir_ticks.specs.declared.tick.Tick.TheVariants.{Silent, Byte}
use Rattle.two_wire.specs.declared.gate.Gate.{Gate}
use Rattle.two_wire.specs.declared.gate.Side.{Side}
use Rattle.two_wire.specs.declared.gate.Side.TheVariants.{Asks, Answers}
use Rattle.two_wire.specs.declared.gate.Spoken.{Spoken}
use Rattle.two_wire.specs.declared.gate.Waits.{Waits}
use Rattle.two_wire.specs.declared.gate.Spoken.TheVariants.{Nobody, Asker, Answerer}
use Rattle.two_wire.specs.Turns.{after, may_speak}

-- what a gate knows between two ticks: who spoke last, how many silent ticks the receiver has
-- returned since its last byte, and whether the burst that it last returned is let through
pub record GateState : Type 0 where
  pub spoken : Spoken
  pub quiet : ℕ
  pub open_now : Bool

-- what a gate knows
abbrev pub gate_state : Gate → GateState
gate_state gate = record { spoken = gate.spoken; quiet = gate.quiet; open_now = gate.open_now }

-- for which side the box of a gate speaks, how long is waited there, and how many ticks the gate
-- has taken
abbrev pub gate_side : Gate → Side
gate_side gate = gate.side

abbrev pub gate_waits : Gate → Waits
gate_waits gate = gate.waits

abbrev pub gate_ticks : Gate → ℕ
gate_ticks gate = gate.ticks

abbrev pub at_rest : GateState
at_rest = record { spoken = Nobody 0; quiet = T1_5_TICKS; open_now = false }

-- whether a byte that the receiver returns now is let through: if it begins a burst, by the turns,
-- and otherwise as the burst's first byte was
abbrev pub lets : Side → Waits → GateState → Bool
lets side waits g =
    if nat_le T1_5_TICKS g.quiet then may_speak side waits g.spoken else g.open_now

-- a tick of the receiver, let through or not
abbrev pub let_through : Tick → Bool → Tick
let_through Silent open_now = Silent
let_through (Byte b) false = Silent
let_through (Byte b) true = Byte b

-- whether a burst begins with this tick of the receiver that the gate keeps back
abbrev pub holds_back : Side → Waits → GateState → Tick → Bool
holds_back side waits g Silent = false
holds_back side waits g (Byte b) = nat_le T1_5_TICKS g.quiet && not (lets side waits g)

-- Who spoke last, as the box knows it, after one more tick of its own and of what it hears. As long
-- as a box that asks hasn't waited since it began, it doesn't take what it hears for the answer to a
-- question of its own: it waits again.
abbrev pub known_after : Side → Spoken → Tick → Tick → Spoken
known_after Asks (Nobody quiet) (Byte b) other = Asker 0
known_after Asks (Nobody quiet) Silent (Byte c) = Nobody 0
known_after Asks (Nobody quiet) Silent Silent = Nobody (suc quiet)
known_after Asks (Asker quiet) own other = after (Asker quiet) own other
known_after Asks (Answerer quiet) own other = after (Answerer quiet) own other
known_after Answers spoken own other = after spoken other own

-- what is known after a tick of the receiver, while this is heard of the others
abbrev pub gate_after : Side → Waits → GateState → Tick → Tick → GateState
gate_after side waits g Silent other = record {
  spoken = known_after side g.spoken Silent other;
  quiet = suc g.quiet;
  open_now = g.open_now;
}
gate_after side waits g (Byte b) other = record {
  spoken = known_after side g.spoken (let_through (Byte b) (lets side waits g)) other;
  quiet = 0;
  open_now = lets side waits g;
}

-- the ticks with which the box drives the wires, by those that its receiver returns and by what it
-- hears of the others meanwhile
abbrev pub gated : Side → Waits → GateState → List Tick → List Tick → List Tick
gated side waits g [] others = []
gated side waits g (tick ∷ ticks) [] = []
gated side waits g (tick ∷ ticks) (other ∷ others) =
    let_through tick (lets side waits g)
    ∷ gated side waits (gate_after side waits g tick other) ticks others

-- the steps in which a burst begins that the gate keeps back, where the first of these ticks falls
-- into step `n`
abbrev pub held_steps : Side → Waits → ℕ → GateState → List Tick → List Tick → List ℕ
held_steps side waits n g [] others = []
held_steps side waits n g (tick ∷ ticks) [] = []
held_steps side waits n g (tick ∷ ticks) (other ∷ others) =
    (if holds_back side waits g tick then n ∷ [] else [])
    ++ held_steps side waits (suc n) (gate_after side waits g tick other) ticks others
