-- What `give` does.
use Rattle.std.specs.Prelude.{◌≡◌, ℕ, ◌==◌, ◌&&◌, ◌||◌, Bool, false, if◌then◌else◌, List, [], ◌∷◌}
use Rattle.std.specs.Prelude.{Option, Some}
use Rattle.yasir_ticks.specs.Characters.{line_feed, percent_sign}
use Rattle.yasir_ticks.specs.TickText.{IsTickText}
use Rattle.yasir_ticks.specs.Ticks.{Item}
use Rattle.yasir_ticks.specs.declared.tick.Tick.{Tick}
use Rattle.tick_drive.specs.Input.{AreFew}
use Rattle.tick_drive.specs.declared.end.End.{End}
use Rattle.tick_drive.specs.declared.end.End.TheVariants.{Refused, ReadFault, Stopped}
use Rattle.tick_drive.specs.declared.end.End.TheVariants as ends
use Rattle.session_lists.specs.Listing.{EndsBefore}
use Rattle.session_lists.specs.Parts.{part}
use Rattle.command_ends.specs.PrintsText.{PrintsText}
use Rattle.command_ends.specs.declared.status.Status.{Status}
use Rattle.command_ends.specs.declared.status.Status.TheVariants as statuses
use Rattle.line_stamps.specs.declared.rate.Rate.{Rate}
use Rattle.capture_text.specs.Dump.{dump_text, wires_for}
use Rattle.line_capture.specs.Inputs.{Told, IsRead}
use Rattle.line_capture.specs.Records.{IsRecorded}
use Rattle.line_capture.specs.Takes.{CaptureHeld, HasNoMemory, read_outcome}
use Rattle.line_capture.specs.declared.input.ReadEnd.{ReadEnd}
use Rattle.line_capture.specs.declared.input.ReadEnd.TheVariants.{Whole, Failed, TooLong}
use Rattle.line_capture.specs.declared.outcome.Outcome.{Outcome}
use Rattle.line_capture.specs.declared.outcome.Outcome.TheVariants.{Ended}
use Rattle.line_capture.specs.declared.records.RecordForm.TheVariants as record_forms
use Rattle.line_capture.specs.declared.words.GiveForm.{GiveForm}
use Rattle.line_capture.specs.declared.words.GiveForm.TheVariants.{Pcap, Text, Vcd}

-- whether a `%` begins a line in the text that comes after this byte
abbrev pub has_mark_behind : ℕ → List ℕ → Bool
has_mark_behind before [] = false
has_mark_behind before (b ∷ text) =
    (before == line_feed && b == percent_sign) || has_mark_behind b text

-- whether a `%` begins a line of the text
abbrev pub has_mark : List ℕ → Bool
has_mark text = has_mark_behind line_feed text

-- How many marks a tick text must have to be given: one if it has any, since the second list is the
-- line of the other way. A text capture has one way, so it is given from one list.
abbrev pub marks_for : GiveForm → List ℕ → ℕ
marks_for Pcap text = if has_mark text then 1 else 0
marks_for Text text = 0
marks_for Vcd text = if has_mark text then 1 else 0

-- The status of a run whose tick text wasn't taken. A list of ticks stops only if there is no
-- memory.
abbrev pub end_status : End → Status
end_status ends.Whole = statuses.Done
end_status (Refused bad) = statuses.BadTicks bad
end_status (ends.TooLong what count) = statuses.TooLong what count
end_status ReadFault = statuses.ReadFault
end_status (Stopped stop) = statuses.NoMemory

-- Holds if this text is the capture of two lines, in this form.
abbrev pub IsGiven : GiveForm → Rate → List Tick → List Tick → List ℕ → Type 0
IsGiven Pcap rate a b text = IsRecorded record_forms.Pcap rate a b text
IsGiven Text rate a b text = IsRecorded record_forms.Text rate a b text
IsGiven Vcd rate a b text = text ≡ dump_text rate (wires_for b) a b

-- Holds if the file is a right tick text of these two lines, with no more ticks than are taken. If
-- it has no mark, the second line is empty.
pub record AreLinesOf (form : GiveForm) (file : List ℕ) (a b : List Tick) : Type 0 where
  pub items : List Item
  pub right : IsTickText (marks_for form file) file items
  pub few : AreFew items
  pub a_is : a ≡ part 0 items
  pub b_is : b ≡ part 1 items

-- Holds if a capture of the lines was written, or a front of it if a write or a flush failed, and
-- nothing else.
pub record GivesLines (form : GiveForm) (rate : Rate) (file : List ℕ) (before now : CaptureHeld)
    (outcome : Outcome) : Type 0 where
  pub a : List Tick
  pub b : List Tick
  pub are : AreLinesOf form file a b
  pub capture : List ℕ
  pub given : IsGiven form rate a b capture
  pub status : Status
  pub out : PrintsText capture before.out now.out status
  pub log : now.log ≡ before.log
  pub outcome_is : outcome ≡ Ended status

-- Holds if the file isn't taken as tick text, the outcome says why and where, and nothing was
-- written.
pub record RefusesLines (form : GiveForm) (file : List ℕ) (before now : CaptureHeld) (outcome : Outcome)
    : Type 0 where
  pub end : End
  pub left : Option (List ℕ)
  pub ends : EndsBefore (marks_for form file) (Some file) left end
  pub same : now ≡ before
  pub outcome_is : outcome ≡ Ended (end_status end)

-- Holds if the lines of the file were given, or the file isn't right, or there was no memory.
pub data GivesFile (form : GiveForm) (rate : Rate) (file : List ℕ) (before now : CaptureHeld)
    (outcome : Outcome) : Type 0 where
  no_memory : HasNoMemory before now outcome → GivesFile form rate file before now outcome
  refused : RefusesLines form file before now outcome → GivesFile form rate file before now outcome
  given : GivesLines form rate file before now outcome → GivesFile form rate file before now outcome

-- If the input wasn't read to its end, nothing of it is given, whatever its bytes are.
abbrev pub GivesRead : GiveForm → Rate → ReadEnd → List ℕ → CaptureHeld → CaptureHeld → Outcome → Type 0
GivesRead form rate Whole file before now outcome = GivesFile form rate file before now outcome
GivesRead form rate Failed file before now outcome =
    (outcome ≡ read_outcome Failed) × (now ≡ before)
GivesRead form rate TooLong file before now outcome =
    (outcome ≡ read_outcome TooLong) × (now ≡ before)

-- Holds if what was read of the input was given.
pub record GivesInput (form : GiveForm) (rate : Rate) (in_before in_now : Told)
    (before now : CaptureHeld) (outcome : Outcome) : Type 0 where
  pub read : ReadEnd
  pub file : List ℕ
  pub reads : IsRead in_before in_now file read
  pub gives : GivesRead form rate read file before now outcome

-- Holds if what was read of the input was given, or there was no memory for it.
pub data GivesCapture (form : GiveForm) (rate : Rate) (in_before in_now : Told)
    (before now : CaptureHeld) (outcome : Outcome) : Type 0 where
  no_memory : HasNoMemory before now outcome
      → GivesCapture form rate in_before in_now before now outcome
  read : GivesInput form rate in_before in_now before now outcome
      → GivesCapture form rate in_before in_now before now outcome
