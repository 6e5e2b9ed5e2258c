-- What a writer of lines represents: ticks, the text of the lines that they have completed, and a
-- line that isn't filled yet.
use Rattle.std.specs.Prelude.{◌≡◌, ℕ, ◌≤◌, List, ◌++◌, length, map, take}
use Rattle.yasir_ticks.specs.CanonicalText.{canonical_text}
use Rattle.yasir_ticks.specs.Ticks.{AreTicks, silent}
use Rattle.yasir_ticks.specs.declared.tick.Tick.{Tick}
use Rattle.yasir_ticks.specs.declared.tick.Tick.TheVariants.{Byte}
use Rattle.line_texts.specs.declared.line_writer.LineWriter.{LineWriter}

-- the ticks of the line that isn't filled: bytes, or silence
abbrev pub unfilled : LineWriter → List Tick
unfilled writer = map Byte (take writer.count writer.bytes) ++ silent writer.silence

-- The writer has taken these ticks, and they have completed this text. Whatever ticks follow, the
-- canonical text of all is this text, and then the canonical text of the line that isn't filled and
-- of the ticks that follow.
pub record WriterHasWritten (writer : LineWriter) (ticks : List Tick) (answered : List ℕ) : Type 0 where
  pub text : (more : List Tick) → answered ++ canonical_text (unfilled writer ++ more)
      ≡ canonical_text (ticks ++ more)
  pub are : AreTicks ticks

-- The writer has taken one more run, which completes this text.
abbrev pub WriterTakes : LineWriter → LineWriter → List Tick → List ℕ → Type 0
WriterTakes old new run text = (ticks : List Tick) (answered : List ℕ) → WriterHasWritten old ticks answered
    → WriterHasWritten new (ticks ++ run) (answered ++ text)

-- The writer has taken one more run, and the text of the one line that the run completes was
-- appended to what was there.
pub record TakesInto (old new : LineWriter) (run : List Tick) (before after : List ℕ) :
    Type 0 where
  pub line : List ℕ
  pub added : after ≡ before ++ line
  pub taken : WriterTakes old new run line
  pub short : length line ≤ 66

-- The text of the line that isn't filled was appended to what was there, which completes the text
-- of all ticks.
pub record Ends (writer : LineWriter) (before after : List ℕ) : Type 0 where
  pub line : List ℕ
  pub added : after ≡ before ++ line
  pub whole : (ticks : List Tick) (answered : List ℕ) → WriterHasWritten writer ticks answered
      → answered ++ line ≡ canonical_text ticks
