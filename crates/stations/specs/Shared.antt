-- A box on a line that several stations share: it has a floor for each station, and takes that of
-- the station that a frame names.
use Rattle.std.specs.Prelude.{ℕ, ◌==◌, List, Option, Some, None, if◌then◌else◌}
use Rattle.std.specs.List.{filter, filter_map}
use Rattle.yasir_ticks.specs.Bursts.{Burst}
use Rattle.yasir_ticks.specs.declared.tick.Tick.{Tick}
use Rattle.line_rules.specs.Rules.{Rules}
use Rattle.frame_ending.specs.LiveBytes.{live_bytes}
use Rattle.frame_ending.specs.Walk.{Walker, notes_of, line_of}
use Rattle.link_format.specs.NumberedFrame.{NumberedFrame}
use Rattle.link_format.specs.Profile.{Profile}
use Rattle.link_box.specs.Checking.{FullNote, checker, passed_in}
use Rattle.link_box.specs.Sealing.{FullNote as SealNote, SealState, sealer, sealed_in}
use Rattle.link_box.specs.Verdicts.{CheckState}

-- the floors with another one for station i
abbrev pub with_floor : (ℕ → ℕ) → ℕ → ℕ → (ℕ → ℕ)
with_floor floors i floor = λ j. if i == j then floor else floors j

-- A box of one station, as a walk: its state with a floor, when the line is free from a tick on,
-- that tick in a state, and the numbered frame of a note, if there is one.
pub record StationBox (S N : Type 0) : Type 0 where
  pub walker : Walker S N
  pub state : ℕ → ℕ → S
  pub free_from : S → ℕ
  pub frame_in : N → Option NumberedFrame

-- what a box of several stations knows between bursts: the floor of each station, and the tick from
-- which on the line is free
pub record SharedState : Type 0 where
  pub floors : ℕ → ℕ
  pub free_from : ℕ

abbrev pub at_floors : (ℕ → ℕ) → SharedState
at_floors floors = record { floors = floors; free_from = 0 }

-- `station` is the station that the bytes of a frame name.
module _ (station : List ℕ → ℕ) where
  -- the station that a burst names
  abbrev pub named : Rules → Burst → ℕ
  named rules d = station (live_bytes rules d)

  -- the floors after a note: the number of its frame is the floor of the station that it names
  abbrev pub floors_after : (ℕ → ℕ) → Option NumberedFrame → (ℕ → ℕ)
  floors_after floors None = floors
  floors_after floors (Some f) = with_floor floors (station f.frame) f.number

  -- of these frames, those that name station i
  abbrev pub of_station : ℕ → List NumberedFrame → List NumberedFrame
  of_station i frames = filter (λ f. station f.frame == i) frames

  abbrev pub bytes_of_station : ℕ → List (List ℕ) → List (List ℕ)
  bytes_of_station i frames = filter (λ x. station x == i) frames

  -- The box of several stations does with a burst what that of the station that it names would do,
  -- at that station's floor.
  module _ {S N : Type 0} (rules : Rules) (box : StationBox S N) where
    abbrev pub its_state : SharedState → Burst → S
    its_state s d = box.state (s.floors (named rules d)) s.free_from

    abbrev pub shared : Walker SharedState N
    shared = record {
      next = λ s d. record {
        floors = floors_after s.floors (box.frame_in (box.walker.note (its_state s d) d));
        free_from = box.free_from (box.walker.next (its_state s d) d);
      };
      note = λ s d. box.walker.note (its_state s d) d;
      tick = λ s d. box.walker.tick (its_state s d) d;
      emission = λ s d. box.walker.emission (its_state s d) d;
    }

    -- the other line, and the frames that are sealed or passed
    abbrev pub shared_line : (ℕ → ℕ) → List Tick → List Tick
    shared_line floors line = line_of shared (at_floors floors) line

    abbrev pub shared_frames : (ℕ → ℕ) → List Tick → List NumberedFrame
    shared_frames floors line = filter_map (λ n. box.frame_in n.note)
        (notes_of shared (at_floors floors) line)

-- ---- both boxes

abbrev pub sealing_box : Profile → Rules → StationBox SealState SealNote
sealing_box profile rules = record {
  walker = sealer profile rules;
  state = λ floor from. record { floor = floor; earliest_start = from };
  free_from = λ s. s.earliest_start;
  frame_in = sealed_in;
}

-- what a receiver of one station knows: its floor, and the tick from which on the line is free
abbrev pub station_state : ℕ → ℕ → CheckState
station_state floor from = record { floor = floor; earliest_start = from }

abbrev pub checking_box : Profile → Rules → StationBox CheckState FullNote
checking_box profile rules = record {
  walker = checker profile rules;
  state = station_state;
  free_from = λ s. s.earliest_start;
  frame_in = passed_in;
}

module _ (station : List ℕ → ℕ) (profile : Profile) (rules : Rules) where
  -- the transmitter of several stations
  abbrev pub sent_line : (ℕ → ℕ) → List Tick → List Tick
  sent_line floors line = shared_line station rules (sealing_box profile rules) floors line

  abbrev pub sealed_frames : (ℕ → ℕ) → List Tick → List NumberedFrame
  sealed_frames floors line = shared_frames station rules (sealing_box profile rules) floors line

  -- the receiver of several stations
  abbrev pub given_line : (ℕ → ℕ) → List Tick → List Tick
  given_line floors link = shared_line station rules (checking_box profile rules) floors link

  abbrev pub passed_frames : (ℕ → ℕ) → List Tick → List NumberedFrame
  passed_frames floors link = shared_frames station rules (checking_box profile rules) floors link
