-- Bursts in the words of the subject: a relation between a line and its bursts.
use Rattle.std.specs.Prelude.{◌≡◌, ℕ, ◌+◌, ◌<◌, ◌≤◌, List, [], ◌∷◌, ◌++◌, length}
use Rattle.yasir_ticks.specs.Ticks.{silent}
use Rattle.yasir_ticks.specs.Bursts.{Burst, end_of}
use Rattle.yasir_ticks.specs.declared.tick.Tick.{Tick}
use Rattle.yasir_ticks.specs.declared.tick.Tick.TheVariants.{Byte}

-- Holds for ticks that begin and end with a byte, and have fewer than `cut` silent ticks between
-- one byte and the next.
pub data IsContiguous (cut : ℕ) : List Tick → Type 0 where
  one : (b : ℕ) → IsContiguous cut (Byte b ∷ [])
  more : (b gap : ℕ) (rest : List Tick) → gap < cut → IsContiguous cut rest
      → IsContiguous cut (Byte b ∷ (silent gap ++ rest))

-- Holds if the first of these bursts, if there is one, doesn't start before tick n.
abbrev pub StartsFrom : ℕ → List Burst → Type 0
StartsFrom n [] = Unit {0}
StartsFrom n (d ∷ ds) = n ≤ d.start

-- Holds if these are the bursts of ticks, the first of which is tick n of the line: there is
-- silence up to the first burst, then its ticks, then `cut` or more silent ticks up to the next
-- burst, and so on. After the last burst there is only silence.
abbrev pub AreBursts : ℕ → ℕ → List Tick → List Burst → Type 0
AreBursts cut n line [] = line ≡ silent (length line)
AreBursts cut n line (d ∷ ds) =
    (gap : ℕ) × (rest : List Tick) × (line ≡ silent gap ++ (d.body ++ rest)) × (d.start ≡ n + gap)
    × IsContiguous cut d.body × StartsFrom (end_of d + cut) ds × AreBursts cut (end_of d) rest ds
