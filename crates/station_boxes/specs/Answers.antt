-- What a step of a transmitter of several stations returns, and what it does to their journals.
use Rattle.std.specs.Prelude.{◌≡◌, ℕ, ◌+◌, true, false, List, [], ◌∷◌, ◌++◌, length, Option}
use Rattle.std.specs.Prelude.{Some, None, Result, option_map}
use Rattle.yasir_ticks.specs.declared.tick.Tick.{Tick}
use Rattle.yasir_io.specs.declared.disk.SlotDisk.{Ghosts as SlotDisk}
use Rattle.frame_ending.specs.Answers.{AnswersTick}
use Rattle.frame_ending.specs.Walk.{Walker, notes_of}
use Rattle.frame_ending.specs.declared.box_step.BoxStep.{BoxStep}
use Rattle.link_box.specs.Sealing.{FullNote}
use Rattle.link_box.specs.Sealing.FullNote.{sealed_note}
use Rattle.link_box.specs.declared.seal_note.SealNote.{SealNote}
use Rattle.link_box.specs.declared.seal_note.SealNote.TheVariants as One
use Rattle.link_box.specs.declared.seal_note.UnsealedWhy.{UnsealedWhy}
use Rattle.link_box.specs.declared.seal_note.UnsealedWhy.TheVariants as OneWhy
use Rattle.seal_transmitter.specs.Answers.{brief_seal_note}
use Rattle.sequence_journal.specs.declared.journal.JournalFault.{JournalFault}
use Rattle.sequence_journal.specs.declared.link.LinkId.{LinkId}
use Rattle.stations.specs.Shared.{SharedState}
use Rattle.sequence_journal.specs.declared.numbers.TheConstants.{LIMIT}
use Rattle.stations.specs.Table.{StationEntry, has_station, table_floor}
use Rattle.station_boxes.specs.Committing.{HasCommittedAt, HasFailedAt, KeepsBy}
use Rattle.station_boxes.specs.Served.{table_of}
use Rattle.station_boxes.specs.declared.note.StationNote.{StationNote}
use Rattle.station_boxes.specs.declared.note.StationNote.TheVariants.{Sealed, Unsealed}
use Rattle.station_boxes.specs.declared.note.UnsealedStationWhy.{UnsealedStationWhy}
use Rattle.station_boxes.specs.declared.note.UnsealedStationWhy.TheVariants.{Early, Form, Station}
use Rattle.station_boxes.specs.declared.note.UnsealedStationWhy.TheVariants.{Spent}
use Rattle.station_boxes.specs.declared.station.Station.{Station as Served}

-- The reason as the walk says it: no number is left for a name that isn't in the table.
abbrev pub one_why : UnsealedStationWhy → UnsealedWhy
one_why Early = OneWhy.Early
one_why Form = OneWhy.Form
one_why Station = OneWhy.Spent
one_why Spent = OneWhy.Spent

-- The note as that of a transmitter of one station.
abbrev pub one_note : StationNote → SealNote
one_note (Sealed station number start len) = One.Sealed number start len
one_note (Unsealed start why) = One.Unsealed start (one_why why)

-- Holds if this name isn't in the table, where the reason says so, and is in it, where the reason is
-- that its numbers are spent.
abbrev pub IsNamedWhy : List StationEntry → ℕ → UnsealedStationWhy → Type 0
IsNamedWhy table name Early = Unit {0}
IsNamedWhy table name Form = Unit {0}
IsNamedWhy table name Station = has_station table name ≡ false
IsNamedWhy table name Spent = has_station table name ≡ true

-- Holds if a note on a burst that names this station names it too, if the burst is sealed, and
-- tells whether the name is in the table, if it isn't sealed for that or for want of a number.
abbrev pub IsNamed : List StationEntry → ℕ → StationNote → Type 0
IsNamed table name (Sealed station number start len) = station ≡ name
IsNamed table name (Unsealed start why) = IsNamedWhy table name why

-- Holds if the step for the tick `t`, after the ticks `line`, returns the tick of the link and the
-- note that the walk adds.
abbrev pub AnswersStep : Walker SharedState FullNote → SharedState → List Tick → Tick
    → BoxStep StationNote → Type 0
AnswersStep w begun line t step =
    AnswersTick w brief_seal_note begun line t step.tick (option_map one_note step.note)

-- Holds if, by the walk, a burst is sealed with this number in the step of the tick `t`, which comes
-- after `line`.
pub record SealsNext (w : Walker SharedState FullNote) (begun : SharedState) (line : List Tick)
    (t : Tick) (number : ℕ) : Type 0 where
  pub start : ℕ
  pub frame : List ℕ
  pub note : notes_of w begun (line ++ t ∷ []) ≡ notes_of w begun line
      ++ record { tick = length line; note = sealed_note number start frame } ∷ []

module _ {D : Type 0} (d : SlotDisk D) (old new : List (Served D)) where
  -- Holds if a step did what its note says: the station of the sealed frame has committed its
  -- number, and nothing else has changed; or all stations are as they were.
  abbrev pub CommitsNoted : Option StationNote → Type 0
  CommitsNoted (Some (Sealed station number start len)) = HasCommittedAt d old new station number
  CommitsNoted (Some (Unsealed start why)) = new ≡ old
  CommitsNoted None = new ≡ old

  -- What a step does to the stations. If it fails, a station has failed to commit its next number.
  abbrev pub KeepsStations : LinkId → Result (BoxStep StationNote) JournalFault → Type 0
  KeepsStations link result = KeepsBy d new (λ step. CommitsNoted step.note)
      ((name : ℕ) × HasFailedAt d old new name (table_floor LIMIT (table_of old) name + 1)) link result
