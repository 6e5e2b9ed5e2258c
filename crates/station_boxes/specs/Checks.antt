-- What a step of a receiver of several stations returns, and what it does to their journals.
use Rattle.std.specs.Prelude.{◌≡◌, ℕ, true, false, List, Option}
use Rattle.std.specs.Prelude.{Some, None, Result, option_map}
use Rattle.yasir_ticks.specs.declared.tick.Tick.{Tick}
use Rattle.yasir_io.specs.declared.disk.SlotDisk.{Ghosts as SlotDisk}
use Rattle.frame_ending.specs.Answers.{AnswersTick}
use Rattle.frame_ending.specs.Walk.{Walker}
use Rattle.frame_ending.specs.declared.box_step.BoxStep.{BoxStep}
use Rattle.link_box.specs.Checking.{FullNote, brief_note}
use Rattle.link_box.specs.declared.check_note.CheckNote.{CheckNote}
use Rattle.link_box.specs.declared.check_note.CheckNote.TheVariants as One
use Rattle.link_box.specs.declared.check_note.RefusedWhy.{RefusedWhy}
use Rattle.link_box.specs.declared.check_note.RefusedWhy.TheVariants as OneWhy
use Rattle.sequence_journal.specs.declared.journal.JournalFault.{JournalFault}
use Rattle.sequence_journal.specs.declared.link.LinkId.{LinkId}
use Rattle.stations.specs.Shared.{SharedState}
use Rattle.stations.specs.Table.{StationEntry, has_station}
use Rattle.station_boxes.specs.Committing.{HasCommittedAt, HasFailedAt, KeepsBy}
use Rattle.station_boxes.specs.declared.check_note.RefusedStationWhy.{RefusedStationWhy}
use Rattle.station_boxes.specs.declared.check_note.RefusedStationWhy.TheVariants.{Trailer, Form}
use Rattle.station_boxes.specs.declared.check_note.RefusedStationWhy.TheVariants.{Station, Number}
use Rattle.station_boxes.specs.declared.check_note.RefusedStationWhy.TheVariants.{Tag}
use Rattle.station_boxes.specs.declared.check_note.StationCheckNote.{StationCheckNote}
use Rattle.station_boxes.specs.declared.check_note.StationCheckNote.TheVariants.{Passed, Refused}
use Rattle.station_boxes.specs.declared.check_note.StationCheckNote.TheVariants.{Dropped}
use Rattle.station_boxes.specs.declared.station.Station.{Station as Served}

-- The reason as the walk says it: no number is left for a name that isn't in the table.
abbrev pub one_refused : RefusedStationWhy → RefusedWhy
one_refused Trailer = OneWhy.Trailer
one_refused Form = OneWhy.Form
one_refused Station = OneWhy.Number
one_refused Number = OneWhy.Number
one_refused Tag = OneWhy.Tag

-- The note as that of a receiver of one station.
abbrev pub one_check : StationCheckNote → CheckNote
one_check (Passed station number start len) = One.Passed number start len
one_check (Refused start why) = One.Refused start (one_refused why)
one_check (Dropped start why) = One.Dropped start why

-- Holds if this name isn't in the table, where the reason says so, and is in it, where the reason is
-- that it has no such number.
abbrev pub IsRefusedWhy : List StationEntry → ℕ → RefusedStationWhy → Type 0
IsRefusedWhy table name Trailer = Unit {0}
IsRefusedWhy table name Form = Unit {0}
IsRefusedWhy table name Station = has_station table name ≡ false
IsRefusedWhy table name Number = has_station table name ≡ true
IsRefusedWhy table name Tag = Unit {0}

-- Holds if a note on a burst that names this station names it too, if the burst passes, and tells
-- whether the name is in the table, if it is refused for that or for its number.
abbrev pub IsCheckNamed : List StationEntry → ℕ → StationCheckNote → Type 0
IsCheckNamed table name (Passed station number start len) = station ≡ name
IsCheckNamed table name (Refused start why) = IsRefusedWhy table name why
IsCheckNamed table name (Dropped start why) = Unit {0}

-- Holds if the step for the tick `t`, after the ticks `line`, returns the tick of the control
-- centre's line and the note that the walk adds.
abbrev pub AnswersCheck : Walker SharedState FullNote → SharedState → List Tick → Tick
    → BoxStep StationCheckNote → Type 0
AnswersCheck w begun line t step =
    AnswersTick w brief_note begun line t step.tick (option_map one_check step.note)

module _ {D : Type 0} (d : SlotDisk D) (old new : List (Served D)) where
  -- Holds if a step did what its note says: the station of the frame that passes has committed its
  -- number, and nothing else has changed; or all stations are as they were.
  abbrev pub CommitsPassed : Option StationCheckNote → Type 0
  CommitsPassed (Some (Passed station number start len)) = HasCommittedAt d old new station number
  CommitsPassed (Some (Refused start why)) = new ≡ old
  CommitsPassed (Some (Dropped start why)) = new ≡ old
  CommitsPassed None = new ≡ old

  -- What a step does to the stations. If it fails, a station has failed to commit a number.
  abbrev pub KeepsChecked : LinkId → Result (BoxStep StationCheckNote) JournalFault → Type 0
  KeepsChecked link result = KeepsBy d new (λ step. CommitsPassed step.note)
      ((name : ℕ) × (number : ℕ) × HasFailedAt d old new name number) link result
