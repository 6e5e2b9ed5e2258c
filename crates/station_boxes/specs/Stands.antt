-- What a transmitter of several stations represents: its setup, and the ticks that it has taken.
use Rattle.std.specs.Prelude.{◌≡◌, ℕ, List, [], ◌∷◌, ◌++◌, IfSome}
use Rattle.yasir_ticks.specs.declared.tick.Tick.{Tick}
use Rattle.line_rules.specs.declared.line_rules.LineRules.{Ghosts as LineRules}
use Rattle.frame_ending.specs.SoFar.{live_bytes_so_far}
use Rattle.frame_ending.specs.Stands.{CutStandsFor, ticks_taken as ticks_cut}
use Rattle.frame_ending.specs.declared.box_step.BoxStep.{BoxStep}
use Rattle.link_format.specs.declared.tag.Mac.{Ghosts as Mac}
use Rattle.link_format.specs.Tag.{direction_number}
use Rattle.link_format.specs.Trailers.{bytes_unsent}
use Rattle.sequence_journal.specs.declared.numbers.TheConstants.{LIMIT}
use Rattle.stations.specs.Shared.{SharedState}
use Rattle.stations.specs.Table.{StationEntry, has_station, table_floor, table_key}
use Rattle.station_boxes.specs.Answers.{AnswersStep, IsNamed}
use Rattle.station_boxes.specs.Names.{name_in}
use Rattle.station_boxes.specs.Walks.{StationSetup, StationsWalk, stations_walk, begun_at}
use Rattle.station_boxes.specs.declared.note.StationNote.{StationNote}
use Rattle.station_boxes.specs.declared.sealer.StationSealer.{StationSealer}

-- Holds if a table has the stations and the keys that it had at the start, and the floor of each
-- name is its floor in this state.
pub record Agrees (now start : List StationEntry) (s : SharedState) : Type 0 where
  pub listed : (i : ℕ) → has_station now i ≡ has_station start i
  pub keys : (i : ℕ) → table_key now i ≡ table_key start i
  pub floors : (i : ℕ) → table_floor LIMIT now i ≡ s.floors i

module _ {R M : Type 0} (proto : LineRules R) (macs : Mac M) where
  -- Holds if the transmitter, with this setup, has taken the ticks of `line`, and `now` is the table
  -- of its stations.
  pub record StationsStandFor {B : ℕ} (value : StationSealer R M B) (now : List StationEntry)
      (setup : StationSetup) (line : List Tick) : Type 0 where
    pub naming_is : value.naming ≡ setup.naming
    pub direction_is : direction_number value.direction ≡ setup.direction
    pub cuts : CutStandsFor proto value.cut line
    pub state : SharedState
    pub free_is : state.free_from ≡ value.earliest_start
    pub agrees : Agrees now setup.table state
    pub walks : StationsWalk proto macs B state (bytes_unsent value.trailer) value.mac
        value.head.items setup line

  -- Holds if the transmitter, after `line`, has taken the tick `t` as well, and `step` is what the
  -- definitions say.
  pub record StationsHaveTaken {B : ℕ} (value : StationSealer R M B) (now : List StationEntry)
      (setup : StationSetup) (line : List Tick) (t : Tick) (step : BoxStep StationNote) : Type 0
    where
      pub stands : StationsStandFor value now setup (line ++ t ∷ [])
      pub answers : AnswersStep (stations_walk proto macs B setup) (begun_at setup) line t step
      pub named : IfSome step.note (IsNamed setup.table
          (name_in setup.naming (live_bytes_so_far proto.rules (line ++ t ∷ []))))

-- how many ticks the transmitter has taken
abbrev pub sealer_ticks : {R M : Type 0} {B : ℕ} → StationSealer R M B → ℕ
sealer_ticks value = ticks_cut value.cut

-- the number of the transmitter's direction
abbrev pub sealer_direction : {R M : Type 0} {B : ℕ} → StationSealer R M B → ℕ
sealer_direction value = direction_number value.direction
