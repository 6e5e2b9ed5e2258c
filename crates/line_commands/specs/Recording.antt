-- What the boxes of both directions make of two recordings, and how it is written.
use Rattle.std.specs.Prelude.{◌≡◌, ◌≢◌, ◌⊎◌, ℕ, ◌+◌, ◌-◌, max, List, ◌++◌, length, codes, Option}
use Rattle.std.specs.Prelude.{Result, Ok, Err}
use Rattle.std.specs.Io.KnownBytes.{append_known}
use Rattle.yasir_io.specs.Output.{GotPrefix}
use Rattle.yasir_ticks.specs.Ticks.{Item, silent}
use Rattle.yasir_ticks.specs.CanonicalText.{canonical_text}
use Rattle.yasir_ticks.specs.declared.tick.Tick.{Tick}
use Rattle.link_format.specs.declared.dir.Dir.{Dir}
use Rattle.link_format.specs.Setup.{Setup, setup_of}
use Rattle.tick_drive.specs.Drive.{StopsForMemory}
use Rattle.tick_drive.specs.Input.{Takes, IsWhole}
use Rattle.tick_drive.specs.declared.end.End.{End}
use Rattle.tick_drive.specs.declared.end.End.TheVariants.{Whole}
use Rattle.link_format.specs.Directions.{opposite_of}
use Rattle.session_lists.specs.Recordings.{before_mark, behind_mark}
use Rattle.command_ends.specs.declared.status.Status.{Status}
use Rattle.command_ends.specs.declared.status.Status.TheVariants.{Done, WriteFault}
use Rattle.line_commands.specs.KeptBox.{TimedBox}
use Rattle.line_commands.specs.TimedLines.{lines_before}
use Rattle.line_commands.specs.declared.recording.Recorded.{Recorded}

-- how many silent ticks follow the longer one of the two recordings
abbrev pub both_rest : ℕ
both_rest = 320

-- the length in ticks to which both recordings are filled
abbrev pub steps_of : List Tick → List Tick → ℕ
steps_of device link = max (length device) (length link) + both_rest

-- a recording, filled with silence up to this many ticks
abbrev pub filled_recording : ℕ → List Tick → List Tick
filled_recording steps line = line ++ silent (steps - length line)

-- the canonical text of the other line of each box, and the lines of their notes
pub record BothTexts : Type 0 where
  pub link : List ℕ
  pub device : List ℕ
  pub notes : List ℕ

-- What both boxes make of the line of a device and of a link. Both recordings are filled, so that
-- tick i of each goes into step i. The notes are in the order of steps, and within a step the one
-- of the outgoing box comes first.
abbrev pub both_texts : TimedBox → TimedBox → List Tick → List Tick → BothTexts
both_texts outgoing incoming device link =
    let steps : ℕ = steps_of device link in
    record {
      link = canonical_text (outgoing.other_line (filled_recording steps device));
      device = canonical_text (incoming.other_line (filled_recording steps link));
      notes = lines_before steps (outgoing.note_lines (filled_recording steps device))
          (incoming.note_lines (filled_recording steps link));
    }

-- what two boxes with this key make of their recordings, one box of this direction and one of the
-- opposite direction, if their numbers begin at 1
abbrev pub both_with : (Setup → TimedBox) → (Setup → TimedBox) → List ℕ → Dir → List Tick
    → List Tick → BothTexts
both_with outgoing incoming key dir =
    both_texts (outgoing (setup_of key dir 0)) (incoming (setup_of key (opposite_of dir) 0))

-- Holds if these are the texts that are made so of both recordings.
abbrev pub AreMade : (List Tick → List Tick → BothTexts) → List Tick → List Tick → BothTexts → Type 0
AreMade texts_of device link texts = texts ≡ texts_of device link

-- the texts of both lines, separated by a mark
abbrev pub both_lines : BothTexts → List ℕ
both_lines texts = texts.link ++ codes "%\n" ++ texts.device

-- What was recorded holds these texts.
pub record HoldsTexts (recorded : Recorded) (texts : BothTexts) : Type 0 where
  pub link : recorded.link.items ≡ texts.link
  pub device : recorded.device.items ≡ texts.device
  pub notes : recorded.notes.items ≡ texts.notes

module _ (AreTexts : List Tick → List Tick → BothTexts → Type 0) (before now : Option (List ℕ)) where
  -- The whole input was read, it is a right text with one mark, and what is made of its two
  -- recordings is kept.
  pub record RecordsWhole (recorded : Recorded) : Type 0 where
    pub items : List Item
    pub whole : IsWhole 1 0 before now items
    pub texts : BothTexts
    pub are : AreTexts (before_mark items) (behind_mark items) texts
    pub holds : HoldsTexts recorded texts

  -- The input isn't whole, or there was no memory for what is made of it.
  pub record EndsOtherwise (end : End) : Type 0 where
    pub items : List Item
    pub takes : Takes 1 0 before now items end
    pub other : end ≢ Whole
    pub memory : StopsForMemory end

  abbrev pub RecordsBoth : Result Recorded End → Type 0
  RecordsBoth (Ok recorded) = RecordsWhole recorded
  RecordsBoth (Err end) = EndsOtherwise end

-- Both sinks have got these texts.
pub record GotBoth (texts : BothTexts) (out_before out_now log_before log_now : Option (List ℕ)) :
    Type 0 where
  pub out : out_now ≡ append_known out_before (both_lines texts)
  pub log : log_now ≡ append_known log_before texts.notes

-- A write failed. Each sink has got a front of its text, and `out` got nothing before the log had
-- got all notes.
pub record GotFronts (texts : BothTexts) (out_before out_now log_before log_now : Option (List ℕ)) :
    Type 0 where
  pub out : GotPrefix out_before out_now (both_lines texts)
  pub log : GotPrefix log_before log_now texts.notes
  pub notes_first : (out_now ≡ out_before) ⊎ (log_now ≡ append_known log_before texts.notes)

-- What each status says of the two sinks.
abbrev pub PrintsBoth : BothTexts → Option (List ℕ) → Option (List ℕ) → Option (List ℕ)
    → Option (List ℕ) → Status → Type 0
PrintsBoth texts out_before out_now log_before log_now Done =
    GotBoth texts out_before out_now log_before log_now
PrintsBoth texts out_before out_now log_before log_now WriteFault =
    GotFronts texts out_before out_now log_before log_now
PrintsBoth texts out_before out_now log_before log_now status = ⊥
