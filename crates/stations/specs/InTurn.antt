-- A link of several stations on which nothing is changed.
use Rattle.std.specs.Prelude.{◌≡◌, ℕ, suc, ◌+◌, ◌-◌, ◌<◌, ◌≤◌, List, [], ◌∷◌, ◌++◌, All}
use Rattle.yasir_ticks.specs.Ticks.{silent}
use Rattle.yasir_ticks.specs.Bursts.{Burst, bursts}
use Rattle.yasir_ticks.specs.declared.tick.Tick.{Tick}
use Rattle.line_rules.specs.Rules.{Rules}
use Rattle.link_box.specs.Checking.{passed}
use Rattle.link_format.specs.NumberedFrame.{NumberedFrame}
use Rattle.link_format.specs.Profile.{Profile, words, delay}
use Rattle.receiver_laws.specs.Standing.{numbered_frame}
use Rattle.receiver_laws.specs.Untouched.{AreSpaced}
use Rattle.stations.specs.Shared.{with_floor, named, of_station, sent_line, given_line}
use Rattle.stations.specs.Shared.{sealed_frames, passed_frames}
use Rattle.stations.specs.Table.{StationTags, profile_for, by_station}

module _ (station : List ℕ → ℕ) (rules : Rules) where
  -- the next number of the station that a burst names, and the floors after that number
  abbrev pub next_of : (ℕ → ℕ) → Burst → ℕ
  next_of floors d = suc (floors (named station rules d))

  abbrev pub floors_past : (ℕ → ℕ) → Burst → (ℕ → ℕ)
  floors_past floors d = with_floor floors (named station rules d) (next_of floors d)

  -- the frames of these bursts, each with the next number of its station
  abbrev pub numbered_in_turn : (ℕ → ℕ) → List Burst → List NumberedFrame
  numbered_in_turn floors [] = []
  numbered_in_turn floors (d ∷ ds) =
      numbered_frame rules d (next_of floors d) ∷ numbered_in_turn (floors_past floors d) ds

  -- Holds if there is such a number up to the limit for each of these bursts.
  abbrev pub HaveNumbers : ℕ → (ℕ → ℕ) → List Burst → Type 0
  HaveNumbers limit floors [] = Unit {0}
  HaveNumbers limit floors (d ∷ ds) = (floors (named station rules d) < limit)
      × HaveNumbers limit (floors_past floors d) ds

-- Holds if the frames of the control centre's line are spaced, there is a number for each of them,
-- and at least as many silent ticks as the delay follow the line.
pub record IsSharedLine (station : List ℕ → ℕ) (profile : Profile) (rules : Rules) (floors : ℕ → ℕ)
    (line : List Tick) (more : ℕ) : Type 0 where
  pub spaced : AreSpaced profile rules 0 (bursts line)
  pub numbers : HaveNumbers station rules profile.limit floors (bursts line)
  pub silence : delay profile ≤ more

-- Holds if a floor of a receiver isn't above the transmitter's, nor so far below it that words no
-- longer tell the numbers apart.
pub record IsNear (profile : Profile) (behind floor : ℕ) : Type 0 where
  pub not_above : behind ≤ floor
  pub near : floor < behind + words profile

module _ (station : List ℕ → ℕ) (profile : Profile) (tags : StationTags) (rules : Rules)
    (floors : ℕ → ℕ) (line : List Tick) (more rest : ℕ) where
  -- what the transmitter of several stations makes of this line and `more` silent ticks after it,
  -- and then `rest` silent ticks
  abbrev pub untouched_link : List Tick
  untouched_link =
      sent_line station (by_station profile tags station) rules floors (line ++ silent more)
      ++ silent rest

  -- Holds if all frames of the line are sealed in turn.
  abbrev pub SealsInTurn : Type 0
  SealsInTurn =
      sealed_frames station (by_station profile tags station) rules floors (line ++ silent more)
      ≡ numbered_in_turn station rules floors (bursts line)

  -- Holds if the box of station i, at this floor, passes all frames that name it. It is a premise
  -- that it passes no other: no tag under another key fits its own.
  abbrev pub StationPassesItsOwn : ℕ → ℕ → Type 0
  StationPassesItsOwn i behind =
      All (λ (f : NumberedFrame). station f.frame ≡ i)
      (passed (profile_for profile tags i) rules behind untouched_link)
      → passed (profile_for profile tags i) rules behind untouched_link
      ≡ of_station station i (numbered_in_turn station rules floors (bursts line))

  -- Holds if the receiver of several stations, at these floors, passes all frames, and gives the
  -- line, later by the delay.
  pub record CentrePassesAll (behind : ℕ → ℕ) : Type 0 where
    pub passes : passed_frames station (by_station profile tags station) rules behind untouched_link
        ≡ numbered_in_turn station rules floors (bursts line)
    pub comes : given_line station (by_station profile tags station) rules behind untouched_link
        ≡ silent (delay profile) ++ (line ++ silent (more - delay profile + rest))
