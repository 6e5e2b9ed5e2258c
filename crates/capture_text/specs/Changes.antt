-- When the levels of two wires change. The wires carry the two ways of a line, tick by tick.
use Rattle.std.specs.Prelude.{ℕ, ◌+◌, ◌*◌, ◌-◌, Bool, true, false, List, [], ◌∷◌, ◌++◌, length}
use Rattle.yasir_ticks.specs.Ticks.{silent}
use Rattle.yasir_ticks.specs.declared.tick.Tick.{Tick}
use Rattle.line_stamps.specs.Parts.{rounded}
use Rattle.line_stamps.specs.declared.capture.Way.{Way}
use Rattle.line_stamps.specs.declared.capture.Way.TheVariants.{A, B}
use Rattle.line_stamps.specs.declared.rate.Rate.{Rate}
use Rattle.capture_text.specs.Levels.{line_levels}
use Rattle.capture_text.specs.declared.changes.BothLevels.{BothLevels}
use Rattle.capture_text.specs.declared.changes.Change.{Change}

-- When a bit starts, in nanoseconds since bit 0: the nearest whole number, a half up.
abbrev pub bit_start : Rate → ℕ → ℕ
bit_start rate bit = rounded (bit * 1000000000) rate.baud

-- both wires are quiet_rows
abbrev pub quiet_rows : BothLevels
quiet_rows = record { a = true; b = true }

-- the change of a wire from one level to another, if they differ
abbrev pub change_if : ℕ → Way → Bool → Bool → List Change
change_if time way true true = []
change_if time way true false = record { time = time; way = way; high = false } ∷ []
change_if time way false true = record { time = time; way = way; high = true } ∷ []
change_if time way false false = []

-- the changes of both wires at a bit
abbrev pub changes_at : ℕ → BothLevels → Bool → Bool → List Change
changes_at time before a b = change_if time A before.a a ++ change_if time B before.b b

-- The changes of two wires that have these levels from bit `bit` on, and the levels `before` in the
-- bit before it.
unfoldable pub changes_from : Rate → ℕ → BothLevels → List Bool → List Bool → List Change
changes_from rate bit before [] ys = []
changes_from rate bit before (a ∷ xs) [] = []
changes_from rate bit before (a ∷ xs) (b ∷ ys) =
    changes_at (bit_start rate bit) before a b
    ++ changes_from rate (bit + 1) (record { a = a; b = b }) xs ys

-- a line, and silence after it up to the end of the other one
abbrev pub padded_rows : List Tick → List Tick → List Tick
padded_rows line other = line ++ silent (length other - length line)

-- The changes of a dump of two lines of the same length. Both wires are quiet_rows for one character,
-- and then tick 0 begins.
abbrev pub ticks_changes : Rate → List Tick → List Tick → List Change
ticks_changes rate a b =
    changes_from rate rate.bits quiet_rows (line_levels rate.bits a) (line_levels rate.bits b)

-- the changes of a dump of two lines
abbrev pub dump_changes : Rate → List Tick → List Tick → List Change
dump_changes rate a b = ticks_changes rate (padded_rows a b) (padded_rows b a)
