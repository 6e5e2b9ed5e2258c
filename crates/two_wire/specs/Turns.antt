-- Turns on the wires to a device: one side asks, the other side answers.
use Rattle.std.specs.Prelude.{◌≡◌, ◌≤◌, ◌+◌, ℕ, suc, nat_le, nat_lt, Bool, true, false, ◌&&◌, ◌||◌}
use Rattle.std.specs.Prelude.{List, [], ◌∷◌}
use Rattle.yasir_ticks.specs.declared.TheConstants.{T3_5_TICKS}
use Rattle.yasir_ticks.specs.declared.tick.Tick.{Tick}
use Rattle.yasir_ticks.specs.declared.tick.Tick.TheVariants.{Silent, Byte}
use Rattle.two_wire.specs.declared.gate.Side.{Side}
use Rattle.two_wire.specs.declared.gate.Side.TheVariants.{Asks, Answers}
use Rattle.two_wire.specs.declared.gate.Spoken.{Spoken}
use Rattle.two_wire.specs.declared.gate.Waits.{Waits}
use Rattle.two_wire.specs.declared.gate.Spoken.TheVariants.{Nobody, Asker, Answerer}

-- who spoke last after one more tick, in which the asker and the answerer drive the wires with
-- these
abbrev pub after : Spoken → Tick → Tick → Spoken
after spoken (Byte b) answer = Asker 0
after spoken Silent (Byte c) = Answerer 0
after (Nobody quiet) Silent Silent = Nobody (suc quiet)
after (Asker quiet) Silent Silent = Asker (suc quiet)
after (Answerer quiet) Silent Silent = Answerer (suc quiet)

-- Whether the side that asks may begin to speak: if an answer ended `pause` silent ticks ago, or if
-- for `window` silent ticks no answer has begun, or nobody has spoken at all.
abbrev pub may_ask : Waits → Spoken → Bool
may_ask waits (Nobody quiet) = nat_le waits.window quiet
may_ask waits (Asker quiet) = nat_le waits.window quiet
may_ask waits (Answerer quiet) = nat_le waits.pause quiet

-- Whether the side that answers may speak: after a question has ended, and before `window` silent
-- ticks have come; then on, until `pause` silent ticks have come.
abbrev pub may_answer : Waits → Spoken → Bool
may_answer waits (Nobody quiet) = false
may_answer waits (Asker quiet) = nat_le T3_5_TICKS quiet && nat_lt quiet waits.window
may_answer waits (Answerer quiet) = nat_lt quiet waits.pause

-- whether the side that asks may go on with what it says: it spoke last, less than the silence that
-- ends a frame ago
abbrev pub may_ask_on : Spoken → Bool
may_ask_on (Nobody quiet) = false
may_ask_on (Asker quiet) = nat_lt quiet T3_5_TICKS
may_ask_on (Answerer quiet) = false

-- whether this side may speak now
abbrev pub may_speak : Side → Waits → Spoken → Bool
may_speak Asks waits spoken = may_ask waits spoken || may_ask_on spoken
may_speak Answers waits spoken = may_answer waits spoken

-- the other side
abbrev pub opposite : Side → Side
opposite Asks = Answers
opposite Answers = Asks

-- who spoke last after one more tick, in which this side and the others drive the wires with these
abbrev pub after_own : Side → Spoken → Tick → Tick → Spoken
after_own Asks spoken own other = after spoken own other
after_own Answers spoken own other = after spoken other own

-- Holds if this tick of a side keeps the turns.
abbrev pub MaySay : Side → Waits → Spoken → Tick → Type 0
MaySay side waits spoken Silent = Unit {0}
MaySay side waits spoken (Byte b) = may_speak side waits spoken ≡ true

-- Holds if one of this side keeps the turns in all of these ticks, the first list being its own and
-- the second one what the others say.
abbrev pub InTurn : Side → Waits → Spoken → List Tick → List Tick → Type 0
InTurn side waits spoken [] others = Unit {0}
InTurn side waits spoken (own ∷ owns) [] = Unit {0}
InTurn side waits spoken (own ∷ owns) (other ∷ others) =
    MaySay side waits spoken own × InTurn side waits (after_own side spoken own other) owns others

-- Holds if the others do, who are of the other side.
abbrev pub OthersInTurn : Side → Waits → Spoken → List Tick → List Tick → Type 0
OthersInTurn side waits spoken [] others = Unit {0}
OthersInTurn side waits spoken (own ∷ owns) [] = Unit {0}
OthersInTurn side waits spoken (own ∷ owns) (other ∷ others) =
    MaySay (opposite side) waits spoken other
    × OthersInTurn side waits (after_own side spoken own other) owns others

-- Whether one of the others may be deaf now, beside a box that speaks for this side, waits so, and
-- hears the others `lag` ticks late. A device may, from the end of a question until `window` silent
-- ticks have come, and behind an answer until `pause` and `lag` have. A master may until the silence
-- that ends a frame and `lag` have come behind its question, and whenever it may ask.
abbrev pub may_be_deaf : Side → Waits → ℕ → Spoken → Bool
may_be_deaf Asks waits lag (Nobody quiet) = nat_lt quiet waits.window
may_be_deaf Asks waits lag (Asker quiet) = nat_le T3_5_TICKS quiet && nat_lt quiet waits.window
may_be_deaf Asks waits lag (Answerer quiet) =
    nat_lt quiet (waits.pause + lag) && nat_lt quiet waits.window
may_be_deaf Answers waits lag (Nobody quiet) = true
may_be_deaf Answers waits lag (Asker quiet) =
    nat_lt quiet (T3_5_TICKS + lag) || nat_le (waits.window + lag) quiet
may_be_deaf Answers waits lag (Answerer quiet) = nat_le waits.pause quiet

-- Holds if one of the others may be deaf in this tick, if it has a byte.
abbrev pub MayBeDeaf : Side → Waits → ℕ → Spoken → Tick → Type 0
MayBeDeaf side waits lag spoken Silent = Unit {0}
MayBeDeaf side waits lag spoken (Byte b) = may_be_deaf side waits lag spoken ≡ true

-- Holds if one is deaf in each tick in which these others talk.
abbrev pub IsWithin : Tick → Tick → Type 0
IsWithin Silent deaf = Unit {0}
IsWithin (Byte b) Silent = ⊥
IsWithin (Byte b) (Byte c) = Unit {0}

abbrev pub AreWithin : List Tick → List Tick → Type 0
AreWithin [] deaf = Unit {0}
AreWithin (other ∷ others) [] = ⊥
AreWithin (other ∷ others) (d ∷ deaf) = IsWithin other d × AreWithin others deaf

-- Holds if one of the others is deaf only when it may be. The third list has bytes in the ticks in
-- which it is deaf.
abbrev pub DeafInTurn : Side → Waits → ℕ → Spoken → List Tick → List Tick → List Tick → Type 0
DeafInTurn side waits lag spoken [] others deaf = Unit {0}
DeafInTurn side waits lag spoken (own ∷ owns) [] deaf = Unit {0}
DeafInTurn side waits lag spoken (own ∷ owns) (other ∷ others) [] = Unit {0}
DeafInTurn side waits lag spoken (own ∷ owns) (other ∷ others) (d ∷ deaf) =
    MayBeDeaf side waits lag spoken d
    × DeafInTurn side waits lag (after_own side spoken own other) owns others deaf

-- Holds if the waits of a box that speaks for this side, and hears the others `lag` ticks late, fit
-- those that the others keep. A box that asks waits for an answer as much longer than devices take,
-- and at least as long behind one. A box that answers begins as much earlier than a master asks
-- again, and ends at least as early.
abbrev pub CoversTurns : Side → Waits → ℕ → Waits → Type 0
CoversTurns Asks waits lag kept =
    (kept.window + lag ≤ waits.window) × (kept.pause ≤ waits.pause) × (kept.pause ≤ kept.window)
CoversTurns Answers waits lag kept =
    (waits.window + lag ≤ kept.window) × (waits.pause ≤ kept.pause) × (T3_5_TICKS ≤ waits.pause)

-- how many silent ticks ago somebody spoke last
abbrev pub quiet_of : Spoken → ℕ
quiet_of (Nobody quiet) = quiet
quiet_of (Asker quiet) = quiet
quiet_of (Answerer quiet) = quiet
