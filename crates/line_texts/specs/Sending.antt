-- The two texts that are made of a line: the text of another line, which goes to `out`, and the
-- lines of notes, which go to the log.
use Rattle.std.specs.Prelude.{◌≡◌, ℕ, ◌≤◌, ◌⊎◌, List, ◌++◌, Option, Result, OnOk, OnErr}
use Rattle.std.specs.Io.KnownBytes.{append_known}
use Rattle.yasir_io.specs.Causes.{Rose}
use Rattle.yasir_io.specs.Output.{Buffered, GotPrefix}
use Rattle.yasir_ticks.specs.Ticks.{AreTicks}
use Rattle.yasir_ticks.specs.CanonicalText.{canonical_text}
use Rattle.yasir_ticks.specs.declared.tick.Tick.{Tick}
use Rattle.line_texts.specs.Writer.{WriterHasWritten}
use Rattle.line_texts.specs.declared.line_writer.LineWriter.{LineWriter}

-- what is made of a line: another line, and the lines of notes
pub record LineAndNotes : Type 0 where
  pub other_line : List Tick → List Tick
  pub note_lines : List Tick → List ℕ

-- If `run` follows `line`, it adds the ticks `answer` to the other line, and `note` to the lines of
-- notes.
pub record AnswersNoted (made : LineAndNotes) (line run answer : List Tick) (note : List ℕ) :
    Type 0 where
  pub ticks_are : made.other_line (line ++ run) ≡ made.other_line line ++ answer
  pub note_is : made.note_lines (line ++ run) ≡ made.note_lines line ++ note

-- what each of the two sinks holds, or `None` if the sink doesn't tell
pub record SinkTexts : Type 0 where
  pub out : Option (List ℕ)
  pub log : Option (List ℕ)

abbrev pub sink_texts : Option (List ℕ) → Option (List ℕ) → SinkTexts
sink_texts out log = record { out = out; log = log }

-- what waits for the sinks: the ticks of the last line, which isn't filled yet, and the bytes of
-- the lines and of the notes before it
pub record Waiting : Type 0 where
  pub writer : LineWriter
  pub ticks : List ℕ
  pub notes : List ℕ

abbrev pub waiting : LineWriter → List ℕ → List ℕ → Waiting
waiting writer ticks notes = record { writer = writer; ticks = ticks; notes = notes }

-- The text of these ticks is on its way to `out`.
pub record WritesTicks (waits : Waiting) (before now : Option (List ℕ)) (ticks : List Tick) :
    Type 0 where
  pub answered : List ℕ
  pub written : WriterHasWritten waits.writer ticks answered
  pub text : Buffered before now waits.ticks answered

-- Each note that falls into ticks of which `out` has got a byte is in the log: the line begins with
-- some ticks `early`, what `out` has got is a front of the text of these, and what the log has got
-- begins with all their notes.
pub record NotesFirst (made : LineAndNotes) (line : List Tick) (front note_front : List ℕ) : Type 0 where
  pub early : List Tick
  pub later : List Tick
  pub is : line ≡ early ++ later
  pub are : AreTicks (made.other_line early)
  pub rest : List ℕ
  pub text : canonical_text (made.other_line early) ≡ front ++ rest
  pub more : List ℕ
  pub notes : note_front ≡ made.note_lines early ++ more

-- What is made of a line is on its way to the two sinks, the notes first.
pub record SendsTexts (made : LineAndNotes) (waits : Waiting) (before now : SinkTexts) (line : List Tick) :
    Type 0 where
  pub text : WritesTicks waits before.out now.out (made.other_line line)
  pub note_text : Buffered before.log now.log waits.notes (made.note_lines line)
  pub notes_first : NotesFirst made line text.text.front note_text.front

-- The sinks have got all that is made of a line.
pub record TextsHaveSent (made : LineAndNotes) (before now : SinkTexts) (line : List Tick) : Type 0 where
  pub are : AreTicks (made.other_line line)
  pub text : now.out ≡ append_known before.out (canonical_text (made.other_line line))
  pub note_text : now.log ≡ append_known before.log (made.note_lines line)

-- Each sink has got a front of its text, the notes first.
pub record HasSentFronts (made : LineAndNotes) (before now : SinkTexts) (line : List Tick) : Type 0 where
  pub are : AreTicks (made.other_line line)
  pub text : GotPrefix before.out now.out (canonical_text (made.other_line line))
  pub note_text : GotPrefix before.log now.log (made.note_lines line)
  pub notes_first : NotesFirst made line text.front note_text.front

-- A call that writes to both sinks fails only if a count of faults rose, that of `out` or that of
-- the log. If it doesn't fail, both counts are as they were. Neither count ever falls.
pub record HaveCause {T E : Type 0} (out_before out_now log_before log_now : ℕ)
    (result : Result T E) : Type 0 where
  pub out_never_falls : out_before ≤ out_now
  pub log_never_falls : log_before ≤ log_now
  pub failed : OnErr result (Rose out_before out_now ⊎ Rose log_before log_now)
  pub out_same : OnOk result (out_now ≡ out_before)
  pub log_same : OnOk result (log_now ≡ log_before)

-- All that waited was written.
pub record WritesAllTexts (waits : Waiting) (before now : SinkTexts) : Type 0 where
  pub ticks : now.out ≡ append_known before.out waits.ticks
  pub notes : now.log ≡ append_known before.log waits.notes

-- A write failed: a front of the notes that waited was written and no tick, or all these notes and
-- a front of the ticks that waited.
abbrev pub WritesPartOfTexts : Waiting → SinkTexts → SinkTexts → Type 0
WritesPartOfTexts waits before now =
    ((now.out ≡ before.out) × GotPrefix before.log now.log waits.notes)
    ⊎ (GotPrefix before.out now.out waits.ticks
    × (now.log ≡ append_known before.log waits.notes))
