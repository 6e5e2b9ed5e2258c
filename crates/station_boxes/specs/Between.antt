-- A transmitter of several stations inside a step: the value that cuts the line has taken the tick,
-- and everything else is as before.
use Rattle.std.specs.Prelude.{◌≡◌, ℕ, true, false, nat_lt, List, [], ◌∷◌, ◌++◌, Option}
use Rattle.std.specs.Prelude.{Some, None}
use Rattle.yasir_ticks.specs.declared.tick.Tick.{Tick}
use Rattle.line_rules.specs.Rules.{Rules}
use Rattle.line_rules.specs.declared.line_rules.LineRules.{Ghosts as LineRules}
use Rattle.frame_ending.specs.declared.box_step.BoxStep.{BoxStep}
use Rattle.frame_ending.specs.declared.cut.Cut.{Cut}
use Rattle.frame_ending.specs.Cuts.{cut_of}
use Rattle.frame_ending.specs.SoFar.{start_so_far, has_extra_so_far, live_bytes_so_far}
use Rattle.frame_ending.specs.Stands.{CutStandsFor}
use Rattle.link_format.specs.declared.tag.Mac.{Ghosts as Mac}
use Rattle.link_format.specs.Profile.{Profile}
use Rattle.link_format.specs.Tag.{direction_number}
use Rattle.link_format.specs.Trailers.{bytes_unsent}
use Rattle.link_box.specs.Sealing.{Judgement}
use Rattle.link_box.specs.Sealing.Judgement.{sealed_with, unsealed}
use Rattle.seal_transmitter.specs.Between.{IsJudged}
use Rattle.stations.specs.Shared.{SharedState, with_floor}
use Rattle.stations.specs.Table.{StationEntry}
use Rattle.station_boxes.specs.Answers.{IsNamedWhy, SealsNext, one_why}
use Rattle.station_boxes.specs.Committing.{HasFailedAt}
use Rattle.yasir_io.specs.declared.disk.SlotDisk.{Ghosts as SlotDisk}
use Rattle.station_boxes.specs.Names.{name_in}
use Rattle.station_boxes.specs.Stands.{Agrees}
use Rattle.station_boxes.specs.Walks.{HasText, StationSetup, StationsWalk, begun_at, stations_profile, stations_walk}
use Rattle.station_boxes.specs.declared.note.StationNote.{StationNote}
use Rattle.station_boxes.specs.declared.note.UnsealedStationWhy.{UnsealedStationWhy}
use Rattle.station_boxes.specs.declared.note.UnsealedStationWhy.TheVariants.{Early, Form}
use Rattle.station_boxes.specs.declared.note.UnsealedStationWhy.TheVariants as Why
use Rattle.station_boxes.specs.declared.sealer.StationSealer.{StationSealer}
use Rattle.station_boxes.specs.declared.station.Station.{Station}

module _ {R M : Type 0} (proto : LineRules R) (macs : Mac M) {B : ℕ} (value : StationSealer R M B)
    (now : List StationEntry) (setup : StationSetup) (s : SharedState) (line : List Tick) where
  -- Holds if the transmitter has taken `line` and come to the state `s`, and then only the value that
  -- cuts the line has taken the tick `t`, and has said that it is `cut`.
  pub record IsBetween (t : Tick) (cut : Cut) : Type 0 where
    pub naming_is : value.naming ≡ setup.naming
    pub direction_is : direction_number value.direction ≡ setup.direction
    pub cuts : CutStandsFor proto value.cut (line ++ t ∷ [])
    pub is_cut : cut_of proto.rules line t ≡ cut
    pub free_is : s.free_from ≡ value.earliest_start
    pub agrees : Agrees now setup.table s
    pub walks : StationsWalk proto macs B s (bytes_unsent value.trailer) value.mac
        value.head.items setup line

-- Holds if the last burst of the line is judged so in this state.
abbrev pub Judges : {R M : Type 0} → LineRules R → Mac M → ℕ → StationSetup → SharedState
    → List Tick → Judgement → Type 0
Judges proto macs word_len setup s line j =
    IsJudged (stations_profile proto macs word_len setup) proto.rules
    (s.floors (name_in setup.naming (live_bytes_so_far proto.rules line))) s.free_from line j

-- Holds if the last burst isn't sealed for this reason, which is right about its station.
pub record IsLeft {R M : Type 0} (proto : LineRules R) (macs : Mac M) (word_len : ℕ)
    (setup : StationSetup) (s : SharedState) (line : List Tick) (why : UnsealedStationWhy) :
    Type 0 where
  pub judged : Judges proto macs word_len setup s line (unsealed (one_why why))
  pub named : IsNamedWhy setup.table
      (name_in setup.naming (live_bytes_so_far proto.rules line)) why

-- Holds if the last burst is sealed for this station with this number, the MAC has the burst's live
-- bytes under the station's key, and the table is that after this number.
pub record IsSealedNow {R M : Type 0} (proto : LineRules R) (macs : Mac M) (word_len : ℕ) (mac : M)
    (now : List StationEntry) (setup : StationSetup) (s : SharedState) (line : List Tick)
    (station number : ℕ) : Type 0 where
  pub judged : Judges proto macs word_len setup s line (sealed_with number)
  pub named : station ≡ name_in setup.naming (live_bytes_so_far proto.rules line)
  pub text : HasText proto macs mac setup (live_bytes_so_far proto.rules line)
  pub agrees : (from : ℕ) → Agrees now setup.table (record {
    floors = with_floor s.floors (name_in setup.naming (live_bytes_so_far proto.rules line)) number;
    free_from = from;
  })

-- Holds if, by the definitions, a burst is sealed in the step of the tick `t`, after `line`, and the
-- station that it names has failed to commit its number.
pub record FailsNext {R M D : Type 0} (proto : LineRules R) (macs : Mac M) (word_len : ℕ)
    (d : SlotDisk D) (old new : List (Station D)) (setup : StationSetup) (line : List Tick)
    (t : Tick) : Type 0 where
  pub number : ℕ
  pub failed : HasFailedAt d old new
      (name_in setup.naming (live_bytes_so_far proto.rules (line ++ t ∷ []))) number
  pub seals : SealsNext (stations_walk proto macs word_len setup) (begun_at setup) line t number

-- Holds if the last burst isn't early, and all its bytes are live and a frame.
pub record IsRight (rules : Rules) (earliest : ℕ) (line : List Tick) : Type 0 where
  pub late : nat_lt (start_so_far line) earliest ≡ false
  pub whole : has_extra_so_far rules line ≡ false
  pub good : rules.is_frame (live_bytes_so_far rules line) ≡ true

-- Holds if the last burst isn't sealed for this reason, whatever station it names, or is right.
abbrev pub IsFormJudged : Rules → ℕ → List Tick → Option UnsealedStationWhy → Type 0
IsFormJudged rules earliest line None = IsRight rules earliest line
IsFormJudged rules earliest line (Some why) = (profile : Profile) (last : ℕ)
    → IsJudged profile rules last earliest line (unsealed (one_why why))

-- Holds if this reason is about the burst's own form, and not about its station.
abbrev pub IsOfForm : UnsealedStationWhy → Type 0
IsOfForm Early = Unit {0}
IsOfForm Form = Unit {0}
IsOfForm Why.Station = ⊥
IsOfForm Why.Spent = ⊥

-- a step that returns this tick of the link, and no note
abbrev pub noteless : Tick → BoxStep StationNote
noteless t = record { tick = t; note = None }
