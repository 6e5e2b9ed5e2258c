-- The calls made on an object in memory, and which of them fail.
use Rattle.std.specs.Prelude.{ℕ, ◌+◌, ◌^◌, ◌<◌, List, Contains}

-- Holds if the next call is one of those that fail. They are counted from 1, and have numbers of 32
-- bits.
abbrev pub IsPlanned : List ℕ → ℕ → Type 0
IsPlanned plan made = (made + 1 < 2 ^ 32) × Contains plan (made + 1)
