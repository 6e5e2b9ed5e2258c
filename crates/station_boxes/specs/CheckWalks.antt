-- The walk of a receiver of several stations, and that of the receiver of one station that serves the
-- last burst that wasn't dropped as others were still leaving.
use Rattle.std.specs.Prelude.{◌≡◌, ℕ, List, [], ◌∷◌, ◌++◌, length}
use Rattle.yasir_ticks.specs.Bursts.{Burst, bursts}
use Rattle.yasir_ticks.specs.declared.tick.Tick.{Tick}
use Rattle.line_rules.specs.declared.line_rules.LineRules.{Ghosts as LineRules}
use Rattle.frame_ending.specs.LiveBytes.{live_bytes}
use Rattle.frame_ending.specs.Walk.{Walker, notes_of, state_after}
use Rattle.link_format.specs.declared.tag.Mac.{Ghosts as Mac}
use Rattle.link_format.specs.Profile.{profile_of}
use Rattle.link_format.specs.Setup.{Setup}
use Rattle.link_box.specs.Checking.{FullNote, at_floor, checker}
use Rattle.link_box.specs.Checking.FullNote.{passed_note}
use Rattle.link_box.specs.Verdicts.{CheckState}
use Rattle.sequence_journal.specs.declared.numbers.TheConstants.{LIMIT}
use Rattle.stations.specs.Shared.{SharedState, checking_box, shared, with_floor}
use Rattle.stations.specs.Table.{table_key}
use Rattle.station_boxes.specs.Late.{StartBefore}
use Rattle.station_boxes.specs.Names.{name_in}
use Rattle.station_boxes.specs.Walks.{StationSetup, begun_at, stations_profile}

module _ {R M : Type 0} (proto : LineRules R) (macs : Mac M) (word_len : ℕ) (setup : StationSetup)
  where
    -- the receiver of several stations, as a walk over bursts
    abbrev pub checking_walk : Walker SharedState FullNote
    checking_walk = shared (name_in setup.naming) proto.rules
        (checking_box (stations_profile proto macs word_len setup) proto.rules)

    -- the state of the walk after these ticks
    abbrev pub state_at : List Tick → SharedState
    state_at line = state_after checking_walk (begun_at setup) (bursts line)

    -- the walk of a receiver of one station with this setup
    abbrev pub walk_of : Setup → Walker CheckState FullNote
    walk_of one = checker (profile_of proto macs word_len LIMIT one) proto.rules

    -- the setup of the receiver of one station, at this floor
    abbrev pub setup_of_one : ℕ → ℕ → Setup
    setup_of_one name floor = record {
      key = table_key setup.table name;
      direction = setup.direction;
      floor = floor;
    }

    -- the tick from which on the receiver of one station is free again after its first burst
    abbrev pub free_after_first : Setup → Burst → ℕ
    free_after_first one d = ((walk_of one).next (at_floor one.floor) d).earliest_start

    -- Holds if the receiver of one station with this setup serves the station that the first of
    -- these bursts names, at the floor of that station, and all other bursts start before it is free
    -- again.
    abbrev pub ServesFirst : (ℕ → ℕ) → Setup → ℕ → List Burst → Type 0
    ServesFirst floors one station [] = Unit {0}
    ServesFirst floors one station (d ∷ ds) =
        (name_in setup.naming (live_bytes proto.rules d) ≡ station)
        × (one ≡ setup_of_one station (floors station))
        × StartBefore (free_after_first one d) ds

    -- the floors, if `last` is the last number that the receiver of the first burst's station used
    abbrev pub floors_since : (ℕ → ℕ) → ℕ → ℕ → List Burst → (ℕ → ℕ)
    floors_since floors station last [] = floors
    floors_since floors station last (d ∷ ds) = with_floor floors station last

-- Holds if, by the walk, a burst passes with this number in the step of the tick `t`, which comes
-- after `line`.
pub record PassesNext (w : Walker SharedState FullNote) (begun : SharedState) (line : List Tick)
    (t : Tick) (number : ℕ) : Type 0 where
  pub start : ℕ
  pub frame : List ℕ
  pub note : notes_of w begun (line ++ t ∷ []) ≡ notes_of w begun line
      ++ record { tick = length line; note = passed_note number start frame } ∷ []
