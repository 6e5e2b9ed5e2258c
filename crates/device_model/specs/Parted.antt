-- A line so far, which `cut` silent ticks together part: its closed bursts, and the running one.
use Rattle.std.specs.Prelude.{◌≡◌, ℕ, ◌+◌, ◌<◌, List, ◌++◌, length, Option, Some, None}
use Rattle.yasir_ticks.specs.Bursts.{Burst, bursts_from, end_of, AreClosed}
use Rattle.yasir_ticks.specs.declared.tick.Tick.{Tick}
use Rattle.frame_ending.specs.Divided.{running_part}

-- Holds if a line of `m` ticks ends in `quiet` silent ones, counted up to `cut`: in `cut` if no
-- burst is running, and in fewer if one is.
abbrev pub IsQuiet : ℕ → ℕ → ℕ → Option Burst → Type 0
IsQuiet cut quiet m None = quiet ≡ cut
IsQuiet cut quiet m (Some d) = (quiet < cut) × (end_of d + quiet ≡ m)

-- Holds if `line`, which `cut` silent ticks together part, has the closed bursts `closed` and then
-- the running burst, if there is one, and ends in `quiet` silent ticks, counted up to `cut`.
pub record IsParted (cut quiet : ℕ) (line : List Tick) (closed : List Burst)
    (running : Option Burst) : Type 0 where
  pub is : bursts_from cut 0 line ≡ closed ++ running_part running
  pub are_closed : AreClosed cut (length line) closed
  pub is_quiet : IsQuiet cut quiet (length line) running
