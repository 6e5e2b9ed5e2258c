-- Uptimes of a transmitter and uptimes of a receiver: what was sealed in all of them, what passed,
-- and what a device has read.
use Rattle.std.specs.Prelude.{◌≡◌, ℕ, ◌≤◌, List, [], ◌∷◌, ◌++◌, Some}
use Rattle.yasir_io.specs.Disks.{Slots}
use Rattle.yasir_ticks.specs.declared.tick.Tick.{Tick}
use Rattle.line_rules.specs.Rules.{Rules}
use Rattle.device_model.specs.Frames.{FrameRead}
use Rattle.sequence_journal.specs.declared.link.LinkId.{LinkId}
use Rattle.sequence_journal.specs.Slots.{floor_of}
use Rattle.sequence_journal.specs.Uptimes.{IsUptime, IsIdle}
use Rattle.link_format.specs.NumberedFrame.{NumberedFrame, numbers_of, last_number}
use Rattle.link_format.specs.Profile.{Profile}
use Rattle.link_box.specs.Sealing.{sealed}
use Rattle.link_box.specs.Checking.{passed, received_line}
use Rattle.receiver_laws.specs.Accounted.{IsSubsequence, IsAccountedFor, forged}
use Rattle.receiver_laws.specs.Headline.{bytes_read, bytes_sealed}

-- An uptime of a box: the floor that it loaded, the ticks whose steps had returned before it ended,
-- and the image that it left of its journal's slots.
pub record BoxUptime : Type 0 where
  pub floor : ℕ
  pub line : List Tick
  pub image : Slots

-- `frames` has the frames of a box for a floor and a line: those that a transmitter seals, or those
-- that a receiver passes.
module _ (frames : ℕ → List Tick → List NumberedFrame) where
  -- the frames of all these uptimes, joined
  abbrev pub frames_over : List BoxUptime → List NumberedFrame
  frames_over [] = []
  frames_over (uptime ∷ uptimes) = frames uptime.floor uptime.line ++ frames_over uptimes

  -- Holds if the first of these uptimes has loaded a floor that isn't below this one, and each
  -- later uptime a floor that isn't below the last number that the one before it used, or below
  -- that one's floor if it used none.
  abbrev pub GoOnFrom : ℕ → List BoxUptime → Type 0
  GoOnFrom floor [] = Unit {0}
  GoOnFrom floor (uptime ∷ uptimes) =
      (floor ≤ uptime.floor)
      × GoOnFrom (last_number uptime.floor (frames uptime.floor uptime.line)) uptimes

  -- Holds if the uptimes share a disk, for one link: each has loaded the floor of the slots that it
  -- found, and was an uptime with the numbers of its frames. It found the image that the uptime
  -- before it left or, if runs in between ended before they had loaded a floor, the image that
  -- these left. All runs between two uptimes count as a single idle one.
  abbrev pub ShareDisk : LinkId → Slots → List BoxUptime → Type 0
  ShareDisk link begins [] = Unit {0}
  ShareDisk link begins (uptime ∷ uptimes) =
      (found : Slots) × IsIdle link begins [] found
      × (floor_of link found ≡ Some uptime.floor)
      × IsUptime link found (numbers_of (frames uptime.floor uptime.line)) uptime.image
      × ShareDisk link uptime.image uptimes

-- the bytes of all frames that a device reads in these uptimes of the receiver, if it is at rest at
-- the start of each
abbrev pub bytes_over : (List Tick → List FrameRead) → Profile → Rules → List BoxUptime
    → List (List ℕ)
bytes_over reads profile rules [] = []
bytes_over reads profile rules (uptime ∷ uptimes) =
    bytes_read (reads (received_line profile rules uptime.floor uptime.line))
    ++ bytes_over reads profile rules uptimes

-- the frames that are sealed in these uptimes of the transmitter
abbrev pub sealed_over : Profile → Rules → List BoxUptime → List NumberedFrame
sealed_over profile rules seals = frames_over (sealed profile rules) seals

-- the frames that pass in these uptimes of the receiver
abbrev pub passed_over_uptimes : Profile → Rules → List BoxUptime → List NumberedFrame
passed_over_uptimes profile rules checks = frames_over (passed profile rules) checks

-- Holds if the uptimes of each box go on from one another, over the box's own journal.
pub record BothGoOn (profile : Profile) (rules : Rules) (seal_floor check_floor : ℕ)
    (seals checks : List BoxUptime) : Type 0 where
  pub sealing : GoOnFrom (sealed profile rules) seal_floor seals
  pub checking : GoOnFrom (passed profile rules) check_floor checks

-- Over these uptimes of both boxes, whatever happened to the sealed frames on the link, a device
-- behind the receiver that reads a line as `reads` says has read a subsequence of all sealed
-- frames, unless a frame that passed is forged. It has read only frames that have passed, and
-- numbers rise over all uptimes on both sides.
pub record ReadsOverUptimes (rules : Rules) (reads : List Tick → List FrameRead) (profile : Profile)
    (seal_floor check_floor : ℕ) (seals checks : List BoxUptime) : Type 0 where
  pub only_sealed : forged (sealed_over profile rules seals) (passed_over_uptimes profile rules checks) ≡ []
      → IsSubsequence (bytes_over reads profile rules checks)
      (bytes_sealed (sealed_over profile rules seals))
  pub only_passed : IsSubsequence (bytes_over reads profile rules checks)
      (bytes_sealed (passed_over_uptimes profile rules checks))
  pub accounted : IsAccountedFor seal_floor check_floor (sealed_over profile rules seals)
      (passed_over_uptimes profile rules checks)
