-- Bursts of a line, some ticks later, and lines in two parts.
use Rattle.std.specs.Prelude.{◌≡◌, ℕ, ◌+◌, ◌<◌, List, [], ◌∷◌, ◌++◌, length, map}
use Rattle.yasir_ticks.specs.Bursts.{Burst, bursts, AreClosed}
use Rattle.yasir_ticks.specs.declared.TheConstants.{T3_5_TICKS}
use Rattle.yasir_ticks.specs.declared.tick.Tick.{Tick}
use Rattle.frame_ending.specs.Laid.{later}

-- these bursts, m ticks later
abbrev pub late : ℕ → List Burst → List Burst
late m ds = map (λ d. later m d) ds

-- Holds if each of these bursts starts before tick n.
abbrev pub StartBefore : ℕ → List Burst → Type 0
StartBefore n [] = Unit {0}
StartBefore n (d ∷ ds) = (d.start < n) × StartBefore n ds

-- Holds if the bursts of a line are those of its first part, which are all closed, and those of its
-- second part, later.
pub record InParts (before since line : List Tick) : Type 0 where
  pub closed : AreClosed T3_5_TICKS (length before) (bursts before)
  pub long : length line ≡ length before + length since
  pub are : bursts line ≡ bursts before ++ late (length before) (bursts since)
