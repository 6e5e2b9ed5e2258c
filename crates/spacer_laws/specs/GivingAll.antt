-- A spacer behind the receiver when nothing is changed on the link: all that was sealed is given.
use Rattle.std.specs.Prelude.{◌≡◌, ℕ, ◌+◌, ◌-◌, ◌*◌, ◌≤◌, List, [], ◌∷◌, length, map, All}
use Rattle.yasir_ticks.specs.Ticks.{bytes_in}
use Rattle.yasir_ticks.specs.Bursts.{Burst, bursts}
use Rattle.yasir_ticks.specs.declared.tick.Tick.{Tick}
use Rattle.yasir_ticks.specs.declared.tick.Tick.TheVariants.{Byte}
use Rattle.line_rules.specs.Rules.{Rules}
use Rattle.device_model.specs.Frames.{FrameRead}
use Rattle.link_format.specs.Profile.{Profile, delay}
use Rattle.link_box.specs.Checking.{received_line}
use Rattle.receiver_laws.specs.Untouched.{untouched}
use Rattle.line_spacer.specs.Spacing.{accepted_of, lost_of}
use Rattle.spacer_laws.specs.Leaving.{HaveLeft}

-- Holds if each of these bursts is given again whole, byte after byte, and begins at most `late`
-- ticks later.
abbrev pub AreGiven : ℕ → List Burst → List Burst → Type 0
AreGiven late [] [] = Unit {0}
AreGiven late [] (e ∷ es) = ⊥
AreGiven late (d ∷ ds) [] = ⊥
AreGiven late (d ∷ ds) (e ∷ es) =
    (e.body ≡ map (λ b. Byte b) (bytes_in d.body)) × (e.start ≤ d.start + late)
    × AreGiven late ds es

-- Holds if the spacer's gap isn't wider than the least silence that spaced frames have between
-- them, each burst of the line takes at most `most` ticks, and as many frames may wait as come
-- while one of `most` ticks is sent.
pub record HasRoomFor (profile : Profile) (most gap cap : ℕ) (line : List Tick) : Type 0 where
  pub near : gap ≤ delay profile + 3
  pub short : All (λ (d : Burst). length d.body ≤ most) (bursts line)
  pub room : most ≤ cap * (gap + 1)

-- Holds if a spacer behind the receiver loses none of the frames that are sealed of a line and pass
-- on an untouched link, once the last of them is read. It gives each frame whole, and begins with
-- it at most this many ticks after the frame began on the line: the receiver's delay, the ticks of
-- the longest burst, and the ticks after a burst's end that it takes to read it. All frames have
-- left once as many silent ticks follow the line.
pub record GivesAll (profile : Profile) (rules : Rules) (heard : List Tick → List FrameRead)
    (ends most gap cap floor behind : ℕ) (line : List Tick) (more rest : ℕ) : Type 0 where
  pub none_lost : ends ≤ more - delay profile + rest
      → lost_of heard gap cap
      (received_line profile rules behind (untouched profile rules floor line more rest)) ≡ []
  pub given : ends ≤ more - delay profile + rest
      → AreGiven (delay profile + (most + ends)) (bursts line) (accepted_of heard gap cap
      (received_line profile rules behind (untouched profile rules floor line more rest)))
  pub left : most + ends ≤ more - delay profile + rest
      → HaveLeft
      (length (received_line profile rules behind (untouched profile rules floor line more rest)))
      (accepted_of heard gap cap
      (received_line profile rules behind (untouched profile rules floor line more rest)))
