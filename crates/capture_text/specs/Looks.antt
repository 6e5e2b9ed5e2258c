-- What a UART sees that looks at the wires of a dump.
use Rattle.std.specs.Prelude.{ℕ, ◌+◌, ◌*◌, ◌≤◌, ◌<◌, nat_lt, not, ◌&&◌, if◌then◌else◌, Bool, true, false}
use Rattle.std.specs.Prelude.{List, [], ◌∷◌}
use Rattle.yasir_ticks.specs.declared.tick.Tick.{Tick}
use Rattle.yasir_ticks.specs.declared.tick.Tick.TheVariants.{Silent, Byte}
use Rattle.line_stamps.specs.declared.capture.Way.{Way}
use Rattle.line_stamps.specs.declared.capture.Way.TheVariants.{A, B}
use Rattle.line_stamps.specs.declared.rate.Rate.{Rate}
use Rattle.capture_text.specs.Changes.{bit_start}
use Rattle.capture_text.specs.declared.changes.Change.{Change}

abbrev pub same_way : Way → Way → Bool
same_way A A = true
same_way A B = false
same_way B A = false
same_way B B = true

-- whether a change is one of this wire, at this time or before it
abbrev pub is_past : Way → ℕ → Change → Bool
is_past way time change = same_way change.way way && not (nat_lt time change.time)

-- The level of a wire at a time: that of its last change at this time or before it, or `before` if
-- there is no such change.
unfoldable pub level_at : Way → ℕ → Bool → List Change → Bool
level_at way time before [] = before
level_at way time before (change ∷ changes) =
    level_at way time (if is_past way time change then change.high else before) changes

-- the number that bits make, the lowest first
abbrev pub value_of : List Bool → ℕ
value_of [] = 0
value_of (level ∷ levels) = (if level then 1 else 0) + 2 * value_of levels

-- What a UART makes of the levels of a tick: a byte of the eight levels after the first if the
-- first is low, which is its start bit, and silence if it is high.
abbrev pub tick_of_look : List Bool → Tick
tick_of_look (false ∷ a ∷ b ∷ c ∷ d ∷ e ∷ f ∷ g ∷ h ∷ behind) =
    Byte (value_of (a ∷ b ∷ c ∷ d ∷ e ∷ f ∷ g ∷ h ∷ []))
tick_of_look _ = Silent

-- A time is within a bit of a tick. Bit 0 of tick 0 starts one character after the start of the
-- dump.
pub record IsWithin (rate : Rate) (tick bit time : ℕ) : Type 0 where
  pub started : bit_start rate ((tick + 1) * rate.bits + bit) ≤ time
  pub open_yet : time < bit_start rate ((tick + 1) * rate.bits + bit + 1)
