-- A spacer in front of a transmitter, and a link on which nothing is changed.
use Rattle.std.specs.Prelude.{◌≡◌, ℕ, ◌+◌, ◌-◌, ◌<◌, ◌≤◌, List, ◌++◌, length, map}
use Rattle.yasir_ticks.specs.Ticks.{silent, bytes_in}
use Rattle.yasir_ticks.specs.Bursts.{Burst}
use Rattle.yasir_ticks.specs.declared.tick.Tick.{Tick}
use Rattle.line_rules.specs.Rules.{Rules}
use Rattle.device_model.specs.Frames.{FrameRead}
use Rattle.link_format.specs.Profile.{Profile, words, delay}
use Rattle.link_box.specs.Sealing.{sealed}
use Rattle.link_box.specs.Checking.{received_line, passed}
use Rattle.receiver_laws.specs.Headline.{bytes_sealed}
use Rattle.receiver_laws.specs.Untouched.{numbered, untouched}
use Rattle.line_spacer.specs.Spacing.{accepted_of, spaced_line}
use Rattle.spacer_laws.specs.Leaving.{HaveLeft}

-- Holds if the silence that ends a frame's burst, a pause and a trailer fit into the gap, all
-- accepted frames have left by tick m, at least as many silent ticks as the delay follow, so that
-- the last trailer is sent, and there are enough numbers up to the limit. The receiver's floor
-- isn't above the transmitter's, nor so far below it that words no longer tell the numbers apart.
pub record IsSpacedForSealing (profile : Profile) (gap floor behind m : ℕ) (accepted : List Burst)
    (more : ℕ) : Type 0 where
  pub fits : delay profile + 3 ≤ gap
  pub left : HaveLeft m accepted
  pub numbers : floor + length accepted ≤ profile.limit
  pub not_above : behind ≤ floor
  pub near : floor < behind + words profile
  pub silence : delay profile ≤ more

-- Holds if the frames that are sealed of the spaced line are the accepted ones, in order, all of
-- them pass, and the receiver's line is the spaced line, later by the delay.
pub record DeliversSpaced (profile : Profile) (rules : Rules) (heard : List Tick → List FrameRead)
    (gap cap floor behind : ℕ) (line : List Tick) (more rest : ℕ) : Type 0 where
  pub seals : sealed profile rules floor (spaced_line heard gap cap line ++ silent more)
      ≡ numbered rules floor (accepted_of heard gap cap line)
  pub whole : bytes_sealed (numbered rules floor (accepted_of heard gap cap line))
      ≡ map (λ d. bytes_in d.body) (accepted_of heard gap cap line)
  pub passes : passed profile rules behind
      (untouched profile rules floor (spaced_line heard gap cap line) more rest)
      ≡ numbered rules floor (accepted_of heard gap cap line)
  pub comes : received_line profile rules behind
      (untouched profile rules floor (spaced_line heard gap cap line) more rest)
      ≡ silent (delay profile)
      ++ (spaced_line heard gap cap line ++ silent (more - delay profile + rest))
