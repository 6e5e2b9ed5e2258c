-- What a receiver of several stations represents: its setup, and the ticks that it has taken.
use Rattle.std.specs.Prelude.{◌≡◌, ℕ, ◌+◌, ◌≤◌, false, List, [], ◌∷◌, ◌++◌, length, IfSome}
use Rattle.yasir_ticks.specs.Bursts.{bursts}
use Rattle.yasir_ticks.specs.declared.tick.Tick.{Tick}
use Rattle.line_rules.specs.declared.line_rules.LineRules.{Ghosts as LineRules}
use Rattle.frame_ending.specs.SoFar.{live_bytes_so_far}
use Rattle.frame_ending.specs.Stands.{CutStandsFor, ticks_taken as ticks_cut}
use Rattle.frame_ending.specs.declared.box_step.BoxStep.{BoxStep}
use Rattle.link_format.specs.declared.tag.Mac.{Ghosts as Mac}
use Rattle.link_format.specs.Profile.{IsWordLen}
use Rattle.link_format.specs.Setup.{Setup}
use Rattle.link_format.specs.Tag.{direction_number}
use Rattle.link_box.specs.Links.{link_by}
use Rattle.check_receiver.specs.Stands.{CheckerStandsFor, checker_direction, checker_ticks}
use Rattle.sequence_journal.specs.Journal.{journal_link, journal_floor, is_broken}
use Rattle.stations.specs.Table.{StationEntry}
use Rattle.station_boxes.specs.Checks.{AnswersCheck, IsCheckNamed}
use Rattle.station_boxes.specs.CheckWalks.{ServesFirst, checking_walk, floors_since, state_at}
use Rattle.station_boxes.specs.Late.{InParts}
use Rattle.station_boxes.specs.Names.{name_in}
use Rattle.station_boxes.specs.Stands.{Agrees}
use Rattle.station_boxes.specs.Walks.{StationSetup, begun_at}
use Rattle.station_boxes.specs.declared.check_note.StationCheckNote.{StationCheckNote}
use Rattle.station_boxes.specs.declared.checker.StationChecker.{StationChecker}
use Rattle.station_boxes.specs.declared.naming.Naming.TheVariants.{FirstByte}

module _ {R M : Type 0} (proto : LineRules R) (macs : Mac M) where
  -- Holds of each receiver that is made, and after each step that succeeds, with 0: its parts have
  -- taken the same ticks, and its numbers are of its own link. Inside a step, the value that cuts the
  -- line is some ticks ahead.
  pub record IsAhead {B D : ℕ} (value : StationChecker R M B D) (ahead : ℕ) : Type 0 where
    pub word_is : IsWordLen B
    pub wide : 2 ≤ B
    pub delay_is : D ≡ 4 + B + macs.TAG
    pub ticks : checker_ticks value.checker + value.since + ahead ≡ ticks_cut value.cut
    pub same_direction : checker_direction value.checker ≡ direction_number value.direction
    pub link : journal_link value.journal ≡ link_by proto macs B (direction_number value.direction)
    pub whole : is_broken value.journal ≡ false
    pub unused_link : journal_link value.unused ≡ link_by proto macs B (direction_number value.direction)
    pub unused_whole : is_broken value.unused ≡ false
    pub unused_floor : journal_floor value.unused ≡ 0

  -- Holds if the receiver, with this setup, has taken the ticks of `line`, and `now` is the table of
  -- its stations. `since` are the ticks that the receiver of the last burst's station has taken.
  pub record StationsCheckFor {B D : ℕ} (value : StationChecker R M B D) (now : List StationEntry)
      (setup : StationSetup) (line : List Tick) : Type 0 where
    pub naming_is : setup.naming ≡ FirstByte
    pub direction_is : direction_number value.direction ≡ setup.direction
    pub cuts : CutStandsFor proto value.cut line
    pub before : List Tick
    pub since : List Tick
    pub parts : InParts before since line
    pub since_is : value.since ≡ length before
    pub free : (state_at proto macs B setup before).free_from ≤ length before
    pub one : Setup
    pub one_stands : CheckerStandsFor proto macs value.checker value.journal one since
    pub serves : ServesFirst proto macs B setup (state_at proto macs B setup before).floors one
        value.station (bursts since)
    pub agrees : Agrees now setup.table (record {
      floors = floors_since proto macs B setup (state_at proto macs B setup before).floors
          value.station (journal_floor value.journal) (bursts since);
      free_from = 0;
    })

  -- Holds if the receiver, after `line`, has taken the tick `t` as well, and `step` is what the
  -- definitions say.
  pub record StationsHaveChecked {B D : ℕ} (value : StationChecker R M B D) (now : List StationEntry)
      (setup : StationSetup) (line : List Tick) (t : Tick) (step : BoxStep StationCheckNote) : Type 0
    where
      pub stands : StationsCheckFor value now setup (line ++ t ∷ [])
      pub answers : AnswersCheck (checking_walk proto macs B setup) (begun_at setup) line t step
      pub named : IfSome step.note (IsCheckNamed setup.table
          (name_in setup.naming (live_bytes_so_far proto.rules (line ++ t ∷ []))))

-- how many ticks the receiver has taken
abbrev pub stations_checked : {R M : Type 0} {B D : ℕ} → StationChecker R M B D → ℕ
stations_checked value = ticks_cut value.cut

-- the number of the receiver's direction
abbrev pub check_direction : {R M : Type 0} {B D : ℕ} → StationChecker R M B D → ℕ
check_direction value = direction_number value.direction
