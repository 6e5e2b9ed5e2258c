-- What holds for each station of a shared line, whatever the others and an attacker do.
use Rattle.std.specs.Prelude.{◌≡◌, ◌≤◌, ◌+◌, ◌++◌, ℕ, List, [], ◌∷◌, map, All}
use Rattle.yasir_ticks.specs.Ticks.{AreTicks, silent}
use Rattle.yasir_ticks.specs.declared.tick.Tick.{Tick}
use Rattle.line_rules.specs.Rules.{Rules}
use Rattle.device_model.specs.Frames.{FrameRead}
use Rattle.frame_ending.specs.Longer.{Begins}
use Rattle.link_format.specs.NumberedFrame.{NumberedFrame, last_number}
use Rattle.link_format.specs.Profile.{Profile, delay}
use Rattle.receiver_laws.specs.Accounted.{IsSubsequence, IsAccountedFor, forged}
use Rattle.receiver_laws.specs.Headline.{bytes_read, bytes_sealed}
use Rattle.receiver_laws.specs.Reading.{delivered}
use Rattle.receiver_laws.specs.Standing.{StandsOn}
use Rattle.stations.specs.Shared.{of_station, bytes_of_station, given_line, passed_frames}
use Rattle.stations.specs.Table.{StationTags, profile_for, by_station}

-- Holds if frames that were read are a subsequence of those that were sealed, unless one that
-- passed is forged. They are a subsequence of those that passed, and numbers rise on both sides.
pub record StationReadsSealed (seal_floor check_floor : ℕ)
    (sealed_ones passed_ones : List NumberedFrame) (read : List (List ℕ)) : Type 0 where
  pub only_sealed : forged sealed_ones passed_ones ≡ []
      → IsSubsequence read (bytes_sealed sealed_ones)
  pub only_passed : IsSubsequence read (bytes_sealed passed_ones)
  pub accounted : IsAccountedFor seal_floor check_floor sealed_ones passed_ones

-- Whatever is on the link so far, a control centre behind the receiver that reads a line as `reads`
-- says has read a front of the frames that have passed, each as late as the receiver is, and
-- nothing else. Once silence follows for the delay and the `ends` ticks that end a frame, it has
-- read all of them. The packet of each is on the link, with a tag under the key of the station that
-- it names, if the link's bytes are below 256 and a word has at least one byte.
pub record CentreReads (rules : Rules) (reads : List Tick → List FrameRead) (ends : ℕ)
    (profile : Profile) (tags : StationTags) (station : List ℕ → ℕ) (floors : ℕ → ℕ)
    (link : List Tick) : Type 0 where
  pub prefix :
      Begins (reads (given_line station (by_station profile tags station) rules floors link))
      (map (delivered profile)
      (passed_frames station (by_station profile tags station) rules floors link))
  pub all : (rest : ℕ) → delay profile + ends ≤ rest
      → reads (given_line station (by_station profile tags station) rules floors
      (link ++ silent rest))
      ≡ map (delivered profile) (passed_frames station (by_station profile tags station) rules
      floors (link ++ silent rest))
  pub stand : AreTicks link → 1 ≤ profile.word_len
      → All (λ (f : NumberedFrame). StandsOn (profile_for profile tags (station f.frame)) link f)
      (passed_frames station (by_station profile tags station) rules floors link)

-- ---- over uptimes

-- an uptime of a box of several stations: the floors that it loaded, and the ticks whose steps had
-- returned before it ended
pub record SharedUptime : Type 0 where
  pub floors : ℕ → ℕ
  pub line : List Tick

-- `frames` has the frames that the box seals or passes. Of these, those of station i count.
module _ (station : List ℕ → ℕ) (frames : (ℕ → ℕ) → List Tick → List NumberedFrame) (i : ℕ) where
  abbrev pub frames_in_uptime : SharedUptime → List NumberedFrame
  frames_in_uptime uptime = of_station station i (frames uptime.floors uptime.line)

  -- the frames of all these uptimes, joined
  abbrev pub station_frames_over : List SharedUptime → List NumberedFrame
  station_frames_over [] = []
  station_frames_over (uptime ∷ uptimes) =
      frames_in_uptime uptime ++ station_frames_over uptimes

  -- Holds if the first of these uptimes has loaded a floor of the station that isn't below this
  -- one, and each later uptime one that isn't below the last number that the one before it used for
  -- the station, or below that one's floor if it used none.
  abbrev pub StationGoesOn : ℕ → List SharedUptime → Type 0
  StationGoesOn floor [] = Unit {0}
  StationGoesOn floor (uptime ∷ uptimes) =
      (floor ≤ uptime.floors i)
      × StationGoesOn (last_number (uptime.floors i) (frames_in_uptime uptime)) uptimes

-- the bytes of all frames naming station i that a control centre reads in these uptimes of the
-- receiver, if it is at rest at the start of each
abbrev pub station_bytes_over : (List ℕ → ℕ) → (List Tick → List FrameRead) → Profile → Rules → ℕ
    → List SharedUptime → List (List ℕ)
station_bytes_over station reads profile rules i [] = []
station_bytes_over station reads profile rules i (uptime ∷ uptimes) =
    bytes_of_station station i
    (bytes_read (reads (given_line station profile rules uptime.floors uptime.line)))
    ++ station_bytes_over station reads profile rules i uptimes
