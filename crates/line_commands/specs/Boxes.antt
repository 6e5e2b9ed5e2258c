-- A box between two lines: what it makes of a line, and what its steps return.
use Rattle.std.specs.Prelude.{◌≡◌, ℕ, ◌≤◌, List, [], ◌∷◌, ◌++◌, length, Option, Some, None}
use Rattle.yasir_ticks.specs.declared.tick.Tick.{Tick}
use Rattle.sequence_journal.specs.Uptimes.{RiseFrom, last_from}

-- What a box with some setup makes of a line: the other line, the lines of its notes, the last
-- number that it has used, and all numbers that it has used, in order.
pub record Boxed : Type 0 where
  pub other_line : List Tick → List Tick
  pub note_lines : List Tick → List ℕ
  pub number : List Tick → ℕ
  pub numbers : List Tick → List ℕ

-- Of no ticks the box makes nothing, and its number is the floor. Of a line it makes as many ticks
-- as the line has, and its number doesn't fall if the line goes on. Its numbers rise from the
-- floor, so none is used twice, and the last of them is its number.
pub record IsBoxed (box : Boxed) (floor : ℕ) : Type 0 where
  pub no_tick : box.other_line [] ≡ []
  pub no_note : box.note_lines [] ≡ []
  pub from_floor : box.number [] ≡ floor
  pub long : (line : List Tick) → length (box.other_line line) ≡ length line
  pub rises : (line more : List Tick) → box.number line ≤ box.number (line ++ more)
  pub rising : (line : List Tick) → RiseFrom floor (box.numbers line)
  pub last_is : (line : List Tick) → last_from floor (box.numbers line) ≡ box.number line

-- the line of a step's note, or nothing if the step has none
abbrev pub line_of_note : {N : Type 0} → (N → List ℕ) → Option N → List ℕ
line_of_note note_line None = []
line_of_note note_line (Some note) = note_line note

-- After this line, the step of the tick `t` returns this tick of the other line and the line of its
-- note, which is empty if there is none.
pub record AnswersBox (box : Boxed) (line : List Tick) (t tick : Tick) (note : List ℕ) :
    Type 0 where
  pub tick_is : box.other_line (line ++ t ∷ []) ≡ box.other_line line ++ tick ∷ []
  pub note_is : box.note_lines (line ++ t ∷ []) ≡ box.note_lines line ++ note

-- For a run of ticks after a line, a box returns these ticks of the other line, notes nothing and
-- uses no number.
pub record AnswersBoxRun (box : Boxed) (line run answer : List Tick) : Type 0 where
  pub ticks : box.other_line (line ++ run) ≡ box.other_line line ++ answer
  pub notes : box.note_lines (line ++ run) ≡ box.note_lines line
  pub number : box.number (line ++ run) ≡ box.number line
