-- How runs of ticks and notes are added to what waits, where there is room for them: no sink is
-- called.
use Rattle.std.specs.Prelude.{◌≡◌, ℕ, ◌+◌, ◌≤◌, ◌<◌, ◌⊎◌, List, ◌++◌, length, take}
use Rattle.yasir_io.specs.TextBuffer.{waiting_bytes}
use Rattle.yasir_ticks.specs.CanonicalText.{canonical_text}
use Rattle.yasir_ticks.specs.Ticks.{silent}
use Rattle.yasir_ticks.specs.declared.tick.Tick.{Tick}
use Rattle.line_texts.specs.Sending.{Waiting}
use Rattle.line_texts.specs.Writer.{WriterHasWritten, WriterTakes}
use Rattle.line_texts.specs.declared.texts.Texts.{Texts}

-- Holds if a run completes ten lines at most: if it has 300 ticks or fewer, or fewer than 1000000
-- and all of them are silent.
abbrev pub IsShort : List Tick → Type 0
IsShort ticks = (length ticks ≤ 300)
    ⊎ ((length ticks < 1000000) × (ticks ≡ silent (length ticks)))

-- Holds if `front` is a short run that begins a run. If the run has a tick, so does `front`.
pub record IsShortFront (run front : List Tick) : Type 0 where
  pub short : IsShort front
  pub front_is : front ≡ take (length front) run
  pub some : 0 < length run → 0 < length front

-- Holds if there is room for the ten lines that a short run completes at most and for the line that
-- isn't filled then, each of up to 66 bytes, and for the line of a note.
pub record TextHasRoom (texts : Texts) : Type 0 where
  pub ticks : length texts.ticks.items + 726 ≤ 65536
  pub notes : length (waiting_bytes texts.notes) + 640 ≤ 65536

-- A run of ticks and a note were added: the text of the lines that the ticks complete now waits, and
-- so does the note.
pub record TextAdds (old new : Waiting) (run : List Tick) (note : List ℕ) : Type 0 where
  pub line : List ℕ
  pub taken : WriterTakes old.writer new.writer run line
  pub ticks : new.ticks ≡ old.ticks ++ line
  pub notes : new.notes ≡ old.notes ++ note

-- Holds if there is room for the line that isn't filled yet.
abbrev pub HasLineRoom : Texts → Type 0
HasLineRoom texts = length texts.ticks.items + 66 ≤ 65536

-- All that these ticks and notes make waits, and nothing of it has gone out.
pub record Waits (waits : Waiting) (ticks : List Tick) (notes : List ℕ) : Type 0 where
  pub written : WriterHasWritten waits.writer ticks waits.ticks
  pub notes_are : waits.notes ≡ notes

-- The line that isn't filled was added to the text, which is then the text of all ticks that wait.
pub record ClosesText (old new : Waiting) : Type 0 where
  pub whole : (ticks : List Tick) (notes : List ℕ) → Waits old ticks notes
      → new.ticks ≡ canonical_text ticks
  pub notes : new.notes ≡ old.notes
