-- A link on which nothing is changed between a transmitter and a receiver, and a device's line
-- whose frames are spaced so that all of them are sealed.
use Rattle.std.specs.Prelude.{◌≡◌, ℕ, suc, ◌+◌, ◌-◌, ◌<◌, ◌≤◌, true, false, List, [], ◌∷◌, ◌++◌}
use Rattle.std.specs.Prelude.{length}
use Rattle.yasir_ticks.specs.Ticks.{silent}
use Rattle.yasir_ticks.specs.Bursts.{Burst, bursts, end_of}
use Rattle.yasir_ticks.specs.declared.TheConstants.{T3_5_TICKS}
use Rattle.yasir_ticks.specs.declared.tick.Tick.{Tick}
use Rattle.line_rules.specs.Rules.{Rules}
use Rattle.frame_ending.specs.LiveBytes.{live_bytes, has_extra}
use Rattle.link_format.specs.NumberedFrame.{NumberedFrame}
use Rattle.link_format.specs.Profile.{Profile, pause_len, trailer_len, words, delay}
use Rattle.link_box.specs.Sealing.{link_line, sealed}
use Rattle.link_box.specs.Checking.{received_line, passed}
use Rattle.receiver_laws.specs.Standing.{numbered_frame}

-- Holds if all bytes of each of these bursts are live and are a frame, no burst starts before tick
-- n, and a pause, a trailer and the silence that ends a burst fit between each burst and the next
-- one.
abbrev pub AreSpaced : Profile → Rules → ℕ → List Burst → Type 0
AreSpaced profile rules n [] = Unit {0}
AreSpaced profile rules n (d ∷ ds) =
    (n ≤ d.start) × (has_extra rules d ≡ false) × (rules.is_frame (live_bytes rules d) ≡ true)
    × AreSpaced profile rules (end_of d + pause_len + trailer_len profile + T3_5_TICKS) ds

-- the frames of these bursts, with consecutive numbers that begin after this floor
abbrev pub numbered : Rules → ℕ → List Burst → List NumberedFrame
numbered rules floor [] = []
numbered rules floor (d ∷ ds) = numbered_frame rules d (suc floor) ∷ numbered rules (suc floor) ds

-- what the transmitter makes of this line and `more` silent ticks after it, and then `rest` silent
-- ticks
abbrev pub untouched : Profile → Rules → ℕ → List Tick → ℕ → ℕ → List Tick
untouched profile rules floor line more rest =
    link_line profile rules floor (line ++ silent more) ++ silent rest

-- Holds if the frames of a line are spaced, there are enough numbers up to the limit for all of
-- them, and at least as many silent ticks as the delay follow the line, so that the last trailer is
-- sent. The receiver's floor isn't above the transmitter's, nor so far below it that words no
-- longer tell the numbers apart.
pub record IsUntouchedLink (profile : Profile) (rules : Rules) (floor behind : ℕ) (line : List Tick)
    (more : ℕ) : Type 0 where
  pub spaced : AreSpaced profile rules 0 (bursts line)
  pub numbers : floor + length (bursts line) ≤ profile.limit
  pub not_above : behind ≤ floor
  pub near : floor < behind + words profile
  pub silence : delay profile ≤ more

-- Holds if all frames of the line are sealed and pass, and the receiver's line is the device's
-- line, later by the delay.
pub record DeliversAll (profile : Profile) (rules : Rules) (floor behind : ℕ) (line : List Tick)
    (more rest : ℕ) : Type 0 where
  pub seals : sealed profile rules floor (line ++ silent more) ≡ numbered rules floor (bursts line)
  pub passes : passed profile rules behind (untouched profile rules floor line more rest)
      ≡ numbered rules floor (bursts line)
  pub comes : received_line profile rules behind (untouched profile rules floor line more rest)
      ≡ silent (delay profile) ++ (line ++ silent (more - delay profile + rest))
