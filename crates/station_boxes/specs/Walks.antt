-- The walk of a transmitter of several stations, and how far it has come.
use Rattle.std.specs.Prelude.{◌≡◌, ℕ, ◌+◌, ◌<◌, ◌≤◌, List, [], ◌∷◌, length, take, Option, IfSome}
use Rattle.yasir_ticks.specs.Bursts.{Burst, bursts}
use Rattle.yasir_ticks.specs.declared.TheConstants.{T3_5_TICKS}
use Rattle.yasir_ticks.specs.declared.tick.Tick.{Tick}
use Rattle.line_rules.specs.Rules.{Rules}
use Rattle.line_rules.specs.declared.line_rules.LineRules.{Ghosts as LineRules}
use Rattle.frame_ending.specs.HasCome.{HasCome}
use Rattle.frame_ending.specs.Laid.{tick_at}
use Rattle.frame_ending.specs.LiveBytes.{live_bytes}
use Rattle.frame_ending.specs.Walk.{Walker}
use Rattle.link_format.specs.declared.tag.Mac.{Ghosts as Mac}
use Rattle.link_format.specs.Profile.{Profile, profile_of}
use Rattle.link_format.specs.Tag.{tag}
use Rattle.link_box.specs.Sealing.{FullNote}
use Rattle.seal_transmitter.specs.Stands.{sent_at}
use Rattle.sequence_journal.specs.declared.numbers.TheConstants.{LIMIT}
use Rattle.stations.specs.Shared.{SharedState, at_floors, shared, sealing_box}
use Rattle.stations.specs.Table.{StationEntry, by_station, table_floor, table_key, table_tags}
use Rattle.station_boxes.specs.Names.{name_in, name_len}
use Rattle.station_boxes.specs.declared.naming.Naming.{Naming}

-- How a frame names its station, the number of the direction, and the table: the key and the floor
-- of each station at the start.
pub record StationSetup : Type 0 where
  pub naming : Naming
  pub direction : ℕ
  pub table : List StationEntry

-- the transmitter of several stations, as a walk over bursts
abbrev pub sealing_walk : (List ℕ → ℕ) → Profile → Rules → Walker SharedState FullNote
sealing_walk station profile rules = shared station rules (sealing_box profile rules)

-- Holds if, before tick `m`, the walk over the bursts `ds` has come to the state `s`, and only the
-- burst `running`, if there is one, isn't noted. Of what the other bursts emit, the bytes `unsent`
-- are still to be sent, the last of them at least four silent ticks before a burst may be sealed
-- again.
pub record StationsHaveWalked (station : List ℕ → ℕ) (profile : Profile) (rules : Rules)
    (floors : ℕ → ℕ) (m : ℕ) (ds : List Burst) (s : SharedState) (unsent : List ℕ)
    (running : Option Burst) : Type 0 where
  pub emissions : List Burst
  pub come : HasCome (sealing_walk station profile rules) (at_floors floors) m ds s emissions running
  pub sends : (i : ℕ) → m ≤ i → tick_at emissions i ≡ sent_at m unsent i
  pub in_time : 0 < length unsent → m + length unsent + T3_5_TICKS ≤ s.free_from

-- the state at the start: each station of the table has its floor, and no number is left for any
-- other name
abbrev pub begun_at : StationSetup → SharedState
begun_at setup = at_floors (table_floor LIMIT setup.table)

module _ {R M : Type 0} (proto : LineRules R) (macs : Mac M) where
  -- The profile of the transmitter, with words of this many bytes: the tag of a frame is under the
  -- key of the station that the frame names.
  abbrev pub stations_profile : ℕ → StationSetup → Profile
  stations_profile word_len setup =
      by_station
      (profile_of proto macs word_len LIMIT
      (record { key = []; direction = setup.direction; floor = 0 }))
      (table_tags (λ key number frame.
      tag macs.tag_of key proto.rules.label setup.direction frame number) setup.table)
      (name_in setup.naming)

  abbrev pub stations_walk : ℕ → StationSetup → Walker SharedState FullNote
  stations_walk word_len setup =
      sealing_walk (name_in setup.naming) (stations_profile word_len setup) proto.rules

  -- Holds if the MAC has the text of the tag of these live bytes so far, under the key of the station
  -- that they name.
  abbrev pub HasText : M → StationSetup → List ℕ → Type 0
  HasText mac setup live = macs.stands mac (table_key setup.table (name_in setup.naming live))
      (proto.rules.label ∷ setup.direction ∷ live)

  -- Holds if the bytes that name the station are kept, as far as they have come, and once they all
  -- have, the MAC has the text of the tag so far, under that station's key. `live` are the live bytes
  -- of a burst.
  pub record HasHeard (mac : M) (head : List ℕ) (setup : StationSetup) (live : List ℕ) : Type 0 where
    pub head_is : head ≡ take (name_len setup.naming) live
    pub text_is : name_len setup.naming ≤ length live → HasText mac setup live

  -- Holds if a transmitter with words of `word_len` bytes has come so far over the line, to the
  -- state `s`: the bytes `unsent` are still to be sent, and `mac` and `head` are the MAC and the
  -- first bytes of the running burst.
  pub record StationsWalk (word_len : ℕ) (s : SharedState) (unsent : List ℕ) (mac : M)
      (head : List ℕ) (setup : StationSetup) (line : List Tick) : Type 0 where
    pub running : Option Burst
    pub walked : StationsHaveWalked (name_in setup.naming) (stations_profile word_len setup)
        proto.rules (table_floor LIMIT setup.table) (length line) (bursts line) s unsent running
    pub heard : IfSome running (λ d. s.free_from ≤ d.start
        → HasHeard mac head setup (live_bytes proto.rules d))
