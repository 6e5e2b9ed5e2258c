-- A receiver of several stations inside a step.
use Rattle.std.specs.Prelude.{◌≡◌, ℕ, ◌+◌, ◌<◌, ◌≤◌, Bool, true, false, List, [], ◌∷◌, ◌++◌, length, Option, Some, None}
use Rattle.std.specs.Prelude.{if◌then◌else◌}
use Rattle.yasir_ticks.specs.Bursts.{bursts}
use Rattle.yasir_ticks.specs.declared.tick.Tick.{Tick}
use Rattle.yasir_io.specs.declared.disk.SlotDisk.{Ghosts as SlotDisk}
use Rattle.line_rules.specs.declared.line_rules.LineRules.{Ghosts as LineRules}
use Rattle.frame_ending.specs.Cuts.{cut_of}
use Rattle.frame_ending.specs.SoFar.{live_bytes_so_far}
use Rattle.frame_ending.specs.Stands.{CutStandsFor, ticks_taken as ticks_cut}
use Rattle.frame_ending.specs.declared.box_step.BoxStep.{BoxStep}
use Rattle.frame_ending.specs.declared.cut.Cut.{Cut}
use Rattle.link_format.specs.declared.tag.Mac.{Ghosts as Mac}
use Rattle.link_format.specs.Setup.{Setup}
use Rattle.link_format.specs.Tag.{direction_number}
use Rattle.link_box.specs.declared.check_note.CheckNote.{CheckNote}
use Rattle.link_box.specs.declared.check_note.CheckNote.TheVariants.{Passed, Refused, Dropped}
use Rattle.link_box.specs.declared.check_note.DroppedWhy.TheVariants.{Busy, Head as NoHead}
use Rattle.link_box.specs.declared.check_note.RefusedWhy.{RefusedWhy}
use Rattle.link_box.specs.declared.check_note.RefusedWhy.TheVariants as OneWhy
use Rattle.check_receiver.specs.Stands.{CheckerHasTaken, CheckerStandsAt}
use Rattle.sequence_journal.specs.Journal.{journal_floor}
use Rattle.sequence_journal.specs.declared.numbers.TheConstants.{LIMIT}
use Rattle.stations.specs.Table.{StationEntry, table_floor, table_key}
use Rattle.station_boxes.specs.CheckStands.{StationsCheckFor}
use Rattle.station_boxes.specs.CheckWalks.{PassesNext, ServesFirst, checking_walk, floors_since, state_at}
use Rattle.station_boxes.specs.Committing.{HasFailedAt}
use Rattle.station_boxes.specs.Late.{InParts}
use Rattle.station_boxes.specs.Names.{name_in}
use Rattle.station_boxes.specs.Stands.{Agrees}
use Rattle.station_boxes.specs.Walks.{StationSetup, begun_at}
use Rattle.station_boxes.specs.declared.check_note.RefusedStationWhy.{RefusedStationWhy}
use Rattle.station_boxes.specs.declared.check_note.RefusedStationWhy.TheVariants.{Trailer, Form}
use Rattle.station_boxes.specs.declared.check_note.RefusedStationWhy.TheVariants.{Station as Unlisted, Number}
use Rattle.station_boxes.specs.declared.check_note.RefusedStationWhy.TheVariants.{Tag}
use Rattle.station_boxes.specs.declared.checker.StationChecker.{StationChecker}
use Rattle.station_boxes.specs.declared.naming.Naming.TheVariants.{FirstByte}
use Rattle.station_boxes.specs.declared.station.Station.{Station}

-- Holds if the last number rose to that of the frame that passes, or stayed, as the note says.
abbrev pub UsesNoted : ℕ → ℕ → Option CheckNote → Type 0
UsesNoted old new (Some (Passed number start len)) = (old < number) × (new ≡ number)
UsesNoted old new (Some (Refused start why)) = new ≡ old
UsesNoted old new (Some (Dropped start why)) = new ≡ old
UsesNoted old new None = new ≡ old

-- whether a burst was dropped since others are still leaving
abbrev pub is_busy : Option CheckNote → Bool
is_busy (Some (Passed number start len)) = false
is_busy (Some (Refused start why)) = false
is_busy (Some (Dropped start Busy)) = true
is_busy (Some (Dropped start NoHead)) = false
is_busy None = false

-- why a burst is refused, if its station is in the table, or isn't
abbrev pub why_by : Bool → RefusedWhy → RefusedStationWhy
why_by listed OneWhy.Trailer = Trailer
why_by listed OneWhy.Form = Form
why_by listed OneWhy.Number = if listed then Number else Unlisted
why_by listed OneWhy.Tag = Tag

module _ {R M : Type 0} (proto : LineRules R) (macs : Mac M) where
  -- Holds if a receiver has been begun anew for this station, and has taken no tick yet.
  pub record IsTurned {B D : ℕ} (old new : StationChecker R M B D) (now : List StationEntry)
      (name : ℕ) : Type 0 where
    pub others : new ≡ record old {
      checker = new.checker;
      journal = new.journal;
      since = new.since;
      station = name;
    }
    pub since : new.since + 1 ≡ ticks_cut old.cut
    pub floor : journal_floor new.journal ≡ table_floor LIMIT now name
    pub stands : (floor : ℕ) → CheckerStandsAt proto macs new.checker floor
        (record {
          key = table_key now name;
          direction = direction_number old.direction;
          floor = floor;
        }) []

  -- Holds if the value that cuts the line has taken the tick `t` after `line`, and has said that it
  -- is `cut`, and everything else is as it was.
  pub record IsCutNext {B D : ℕ} (value : StationChecker R M B D) (now : List StationEntry)
      (setup : StationSetup) (line : List Tick) (t : Tick) (cut : Cut) : Type 0 where
    pub old : StationChecker R M B D
    pub stands : StationsCheckFor proto macs old now setup line
    pub value_is : value ≡ record old { cut = value.cut }
    pub cuts : CutStandsFor proto value.cut (line ++ t ∷ [])
    pub is_cut : cut_of proto.rules line t ≡ cut

  -- Holds if the receiver of one station has taken the tick `t` after `since`, and `step` is what it
  -- returned.
  pub record IsHeard {B D : ℕ} (value : StationChecker R M B D) (now : List StationEntry)
      (setup : StationSetup) (line : List Tick) (t : Tick) (step : BoxStep CheckNote) : Type 0 where
    pub wide : 2 ≤ B
    pub naming_is : setup.naming ≡ FirstByte
    pub direction_is : direction_number value.direction ≡ setup.direction
    pub cuts : CutStandsFor proto value.cut (line ++ t ∷ [])
    pub before : List Tick
    pub since : List Tick
    pub parts : InParts before since line
    pub since_is : value.since ≡ length before
    pub free : (state_at proto macs B setup before).free_from ≤ length before
    pub one : Setup
    pub taken : CheckerHasTaken proto macs value.checker (journal_floor value.journal) one since t
        step
    pub serves : ServesFirst proto macs B setup (state_at proto macs B setup before).floors one
        value.station (bursts (since ++ t ∷ []))
    pub last : ℕ
    pub used : UsesNoted last (journal_floor value.journal) step.note
    pub agrees : Agrees now setup.table (record {
      floors = floors_since proto macs B setup (state_at proto macs B setup before).floors
          value.station last (bursts (since ++ t ∷ []));
      free_from = 0;
    })

-- Holds if, by the definitions, a burst passes in the step of the tick `t`, after `line`, and the
-- station that it names has failed to commit its number.
pub record FailsPassed {R M D : Type 0} (proto : LineRules R) (macs : Mac M) (word_len : ℕ)
    (d : SlotDisk D) (old new : List (Station D)) (setup : StationSetup) (line : List Tick)
    (t : Tick) : Type 0 where
  pub number : ℕ
  pub failed : HasFailedAt d old new
      (name_in setup.naming (live_bytes_so_far proto.rules (line ++ t ∷ []))) number
  pub passes : PassesNext (checking_walk proto macs word_len setup) (begun_at setup) line t number
