-- A box over a new journal, and what it has made of a line, in memory.
use Rattle.std.specs.Prelude.{◌≡◌, ℕ, ◌+◌, ◌<◌, ◌≤◌, List, [], ◌++◌, length, take, Some}
use Rattle.yasir_io.specs.Steady.{steady_slots}
use Rattle.yasir_ticks.specs.Ticks.{silent}
use Rattle.yasir_ticks.specs.CanonicalText.{canonical_text}
use Rattle.yasir_ticks.specs.declared.tick.Tick.{Tick}
use Rattle.frame_ending.specs.Answers.{told_notes}
use Rattle.link_format.specs.Setup.{Setup}
use Rattle.link_box.specs.Walking.{Walking, full_notes, other_line}
use Rattle.link_box.specs.declared.box_trait.LinkBox.{Ghosts as LinkBox}
use Rattle.sequence_journal.specs.Journal.{journal_link, journal_floor, Fits}
use Rattle.session_lists.specs.FrameList.{KeptFrames, Holds, ListIsWhole}
use Rattle.line_texts.specs.Adding.{TextHasRoom}
use Rattle.line_texts.specs.Sending.{LineAndNotes, sink_texts, SendsTexts}
use Rattle.line_texts.specs.Texts.{waiting_in}
use Rattle.line_commands.specs.MemoryText.{text_bytes}
use Rattle.line_commands.specs.TimedLines.{timed_lines, AreInOrder}
use Rattle.line_commands.specs.declared.kept_box.KeptBox.{KeptBox}
use Rattle.line_commands.specs.declared.kept_box.KeptTexts.{KeptTexts}

-- What a box makes of a line: the other line, and the line of each note with the tick of its step.
pub record TimedBox : Type 0 where
  pub other_line : List Tick → List Tick
  pub note_lines : List Tick → List (KeptFrames ℕ)

-- a box of a link with this walk and this setup, whose notes have these lines
abbrev pub timed_of : {A : Type 0} → Walking A → (A → List ℕ) → Setup → TimedBox
timed_of walking line_of setup = record {
  other_line = λ line. other_line walking setup line;
  note_lines = λ line. timed_lines line_of
      (told_notes walking.brief (full_notes walking setup line));
}

-- only the other line, without notes
abbrev pub line_alone : TimedBox → LineAndNotes
line_alone box = record { other_line = box.other_line; note_lines = λ line. [] }

-- how many ticks the box has taken
abbrev pub ticks_kept : {B : Type 0} → KeptBox B → ℕ
ticks_kept value = value.ticks

-- The text of the other line and the lines of the notes are what the box makes of this line.
pub record AreTextsOf (box : TimedBox) (line : List Tick) (texts : KeptTexts) : Type 0 where
  pub text_is : texts.text.items ≡ canonical_text (box.other_line line)
  pub notes : Holds texts.notes (box.note_lines line)
  pub in_order : AreInOrder 0 (length line) (box.note_lines line)

module _ {B N : Type 0} (b : LinkBox B N) (line_of : N → List ℕ) where
  -- The box, which began with this setup, has taken this line, and what it has made of the line is
  -- kept: the text of the other line is on its way to the memory, and the lines of the notes are
  -- there.
  pub record KeepsLine (value : KeptBox B) (setup : Setup) (line : List Tick) : Type 0 where
    pub steps : b.stands value.line_box (journal_floor value.journal) setup line
    pub counted : ticks_kept value ≡ length line
    pub sends : SendsTexts (line_alone (timed_of b.walking line_of setup))
        (waiting_in value.texts)
        (sink_texts (Some []) (Some []))
        (sink_texts (Some (text_bytes value.text)) (Some (text_bytes value.log))) line
    pub notes : Holds value.notes ((timed_of b.walking line_of setup).note_lines line)
    pub in_order : AreInOrder 0 (length line) ((timed_of b.walking line_of setup).note_lines line)

  -- The journal is that of the box's link, the slots of the disk are those of the journal, the box
  -- has counted as many ticks as were kept, and the bytes of the notes are whole.
  pub record IsServed (value : KeptBox B) : Type 0 where
    pub of_link : journal_link value.journal ≡ b.link_of value.line_box
    pub fits : Fits value.journal (Some (steady_slots value.disk))
    pub level : b.taken value.line_box ≡ ticks_kept value
    pub whole : ListIsWhole value.notes

  -- The box may take more ticks: there is room for what they complete.
  pub record IsSteady (value : KeptBox B) : Type 0 where
    pub served : IsServed value
    pub room : TextHasRoom value.texts

  -- The box has taken the ticks `run`, after whatever line it had taken.
  pub record KeptTakesOn (old new : KeptBox B) (run : List Tick) : Type 0 where
    pub counted : ticks_kept new ≡ ticks_kept old + length run
    pub served : IsServed new
    pub keeps : (setup : Setup) (line : List Tick) → KeepsLine old setup line
        → KeepsLine new setup (line ++ run)

  -- the box has taken the first `count` of these ticks, which may be none
  pub record KeptTakesUpTo (old new : KeptBox B) (run : List Tick) (count : ℕ) : Type 0 where
    pub within : count ≤ length run
    pub goes : KeptTakesOn old new (take count run)

  -- the box has taken the first `count` of these ticks, at least one
  pub record TakesSome (old new : KeptBox B) (run : List Tick) (count : ℕ) : Type 0 where
    pub some : 0 < count
    pub front : KeptTakesUpTo old new run count

  -- The box has taken the ticks `run`, and may take more.
  pub record KeepsOn (old new : KeptBox B) (run : List Tick) : Type 0 where
    pub goes : KeptTakesOn old new run
    pub steady : IsSteady new

  -- Of `ticks` silent ticks, the box has taken all but `left`, and may take more.
  pub record KeepsWaiting (old new : KeptBox B) (ticks left : ℕ) : Type 0 where
    pub done : ℕ
    pub all : done + left ≡ ticks
    pub goes : KeptTakesOn old new (silent done)
    pub steady : IsSteady new

  -- The box has taken the first `count` of these ticks, at least one, and may take more.
  pub record KeepsSome (old new : KeptBox B) (run : List Tick) (count : ℕ) : Type 0 where
    pub some : 0 < count
    pub front : KeptTakesUpTo old new run count
    pub steady : IsSteady new
