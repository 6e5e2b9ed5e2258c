-- A line up to now: its closed bursts, and the running one.
use Rattle.std.specs.Prelude.{◌≡◌, ◌+◌, ◌<◌, List, [], ◌∷◌, ◌++◌, length, Option, Some, None}
use Rattle.std.specs.Prelude.{IfSome}
use Rattle.yasir_ticks.specs.Bursts.{Burst, bursts, end_of, AreClosed}
use Rattle.yasir_ticks.specs.declared.TheConstants.{T3_5_TICKS}
use Rattle.yasir_ticks.specs.declared.tick.Tick.{Tick}

-- the running burst, if one runs
abbrev pub running_part : Option Burst → List Burst
running_part None = []
running_part (Some d) = d ∷ []

-- Holds if these are the bursts of the line, and all are closed except the running one, if one
-- runs: fewer than four silent ticks have followed it so far.
pub record IsDivided (line : List Tick) (closed : List Burst) (running : Option Burst) :
    Type 0 where
  pub is : bursts line ≡ closed ++ running_part running
  pub are_closed : AreClosed T3_5_TICKS (length line) closed
  pub is_running : IfSome running (λ d. length line < end_of d + T3_5_TICKS)
