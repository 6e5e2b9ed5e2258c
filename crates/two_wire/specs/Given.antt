-- A line on which some bursts that leave a receiver are, whole, and the others aren't at all.
use Rattle.std.specs.Prelude.{◌≡◌, ℕ, List, [], length, map}
use Rattle.yasir_ticks.specs.Bursts.{Burst, bursts}
use Rattle.yasir_ticks.specs.declared.tick.Tick.{Tick}
use Rattle.line_rules.specs.Rules.{Rules}
use Rattle.frame_ending.specs.Laid.{laid, later}
use Rattle.frame_ending.specs.Walk.{emitted_by}
use Rattle.device_model.specs.Frames.{FrameRead}
use Rattle.link_format.specs.Profile.{Profile}
use Rattle.link_box.specs.Checking.{checker, at_floor, passed}
use Rattle.receiver_laws.specs.Accounted.{IsSubsequence, IsAccountedFor, forged}
use Rattle.receiver_laws.specs.Headline.{bytes_read, bytes_sealed}
use Rattle.link_box.specs.Sealing.{sealed}

-- Holds if each burst that a receiver makes of this link is on the line whole, `late` ticks later,
-- or left out. The line may break off inside one.
pub record GivesSome (profile : Profile) (rules : Rules) (floor late : ℕ) (link given : List Tick) :
    Type 0 where
  pub bursts_given : List Burst
  pub among : IsSubsequence bursts_given
      (emitted_by (checker profile rules) (at_floor floor) (bursts link))
  pub is : given ≡ laid (length link) (map (later late) bursts_given)

-- A device that reads a line as `reads` says reads from what is given only frames that were sealed,
-- in their order, unless a frame that passed is forged.
pub record ReadsSealed (rules : Rules) (reads : List Tick → List FrameRead) (profile : Profile)
    (seal_floor check_floor : ℕ) (line link given : List Tick) : Type 0 where
  pub only_passed : IsSubsequence (bytes_read (reads given))
      (bytes_sealed (passed profile rules check_floor link))
  pub only_sealed :
      forged (sealed profile rules seal_floor line) (passed profile rules check_floor link) ≡ []
      → IsSubsequence (bytes_read (reads given)) (bytes_sealed (sealed profile rules seal_floor line))
  pub accounted : IsAccountedFor seal_floor check_floor (sealed profile rules seal_floor line)
      (passed profile rules check_floor link)
