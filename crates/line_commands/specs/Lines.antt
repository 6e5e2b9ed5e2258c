-- What a `LineReader` has read.
use Rattle.std.specs.Prelude.{◌≡◌, ℕ, ◌<◌, ◌≤◌, List, [], ◌++◌, length, take, true, false, Some}
use Rattle.std.specs.Prelude.{Result, Ok, Err, slice_index}
use Rattle.yasir_ticks.specs.Ticks.{Item, items_of_run, marks_in}
use Rattle.yasir_ticks.specs.Reader.{StandsFor, items_of_content, lent_bytes}
use Rattle.yasir_ticks.specs.TickText.{IsTickText, IsRefusedAfter, ended_items, all_items, lines_of}
use Rattle.yasir_ticks.specs.TickText.{BeginsTickText, line_after, fault_after, fault_at_end}
use Rattle.yasir_ticks.specs.declared.fault.BadTicks.{BadTicks}
use Rattle.yasir_ticks.specs.declared.run.Run.{Run}
use Rattle.tick_drive.specs.declared.end.End.{End}
use Rattle.tick_drive.specs.declared.end.End.TheVariants.{Refused, TooLong}
use Rattle.tick_drive.specs.declared.end.TooMuch.TheVariants.{Bytes}
use Rattle.line_commands.specs.Counted.{capped}
use Rattle.line_commands.specs.declared.lines.LineReader.{LineReader}
use Rattle.line_commands.specs.declared.lines.ReadBytes.{ReadBytes}

-- Right lines without a mark, each ended by an LF.
pub record AreWholeLines (text : List ℕ) : Type 0 where
  pub closed : (lines_of text).last ≡ []
  pub right : all_items (lines_of text).ended ≡ Some (ended_items text)
  pub unmarked : marks_in (ended_items text) ≡ 0

-- The reader has read this text and refused no byte of it: whole lines, and then what its own
-- reader was fed.
pub record HasRead (lines : LineReader) (text : List ℕ) : Type 0 where
  pub whole : List ℕ
  pub part : List ℕ
  pub is : text ≡ whole ++ part
  pub front : AreWholeLines whole
  pub stands : StandsFor lines.reader 0 part
  pub fed : lines.since ≡ length part
  pub counted : lines.line ≡ capped (line_after whole)
  pub ends : lines.ended ≡ true → (lines_of part).last ≡ []
  pub quiet : lines.ended ≡ false → ended_items part ≡ []

-- the bytes of the line that ended last, if it was a line of bytes
abbrev pub lent_lines : LineReader → List ℕ
lent_lines lines = lent_bytes lines.reader

-- The first `taken` of these bytes were read after a text, and these are the items of the line that
-- ended with them.
pub record ReadsLine (lines : LineReader) (text bytes : List ℕ) (taken : ℕ) (items : List Item) :
    Type 0 where
  pub some : 0 < taken
  pub within : taken ≤ length bytes
  pub has_read : HasRead lines (text ++ take taken bytes)
  pub ended : ended_items (text ++ take taken bytes) ≡ ended_items text ++ items

-- A byte is refused after a text, and no line with ticks ended before it.
pub record RefusesByte (text bytes : List ℕ) (bad : BadTicks) : Type 0 where
  pub taken : ℕ
  pub within : taken < length bytes
  pub refused : IsRefusedAfter 0 (text ++ take taken bytes) (slice_index bytes taken)
  pub quiet : ended_items (text ++ take taken bytes) ≡ ended_items text
  pub line : bad.line ≡ capped (line_after (text ++ take taken bytes))
  pub why : bad.why ≡ fault_after (text ++ take taken bytes) (slice_index bytes taken)

-- The last `count` bytes of a text end no line with ticks.
pub record EndsNoLine (text : List ℕ) (count : ℕ) : Type 0 where
  pub whole : List ℕ
  pub part : List ℕ
  pub is : text ≡ whole ++ part
  pub counted : count ≡ length part
  pub none : ended_items text ≡ ended_items whole

-- Only the text causes this end: it is refused, or too long.
abbrev pub IsOfText : End → Type 0
IsOfText (Refused bad) = Unit {0}
IsOfText (TooLong what count) = Unit {0}
IsOfText end = ⊥

-- what the result of `feed` says, if it is given these bytes after a text
abbrev pub FeedAnswer : LineReader → List ℕ → List ℕ → Result ReadBytes End → Type 0
FeedAnswer lines text bytes (Ok found) =
    ReadsLine lines text bytes found.taken (items_of_content found.content (lent_lines lines))
FeedAnswer lines text bytes (Err (Refused bad)) = RefusesByte text bytes bad
FeedAnswer lines text bytes (Err (TooLong Bytes count)) =
    (2147483648 < count) × EndsNoLine text count
FeedAnswer lines text bytes (Err end) = ⊥

-- The whole text isn't a right one, and no byte of it is refused: a right text begins with it.
pub record RefusesText (text : List ℕ) (bad : BadTicks) : Type 0 where
  pub begins : BeginsTickText 0 text
  pub refused : ¬ ((items : List Item) × IsTickText 0 text items)
  pub line : bad.line ≡ capped (line_after text)
  pub why : bad.why ≡ fault_at_end text

-- what the result of `finish` says at the end of a text
abbrev pub LinesFinishAnswer : List ℕ → Result Run End → Type 0
LinesFinishAnswer text (Ok run) = IsTickText 0 text (ended_items text ++ items_of_run run)
LinesFinishAnswer text (Err (Refused bad)) = RefusesText text bad
LinesFinishAnswer text (Err end) = ⊥
