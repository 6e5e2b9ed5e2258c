-- A run of ticks of the other line that is all silence, or all bytes.
use Rattle.std.specs.Prelude.{ℕ, List, [], ◌∷◌, map}
use Rattle.yasir_ticks.specs.Ticks.{silent}
use Rattle.yasir_ticks.specs.declared.tick.Tick.{Tick}
use Rattle.yasir_ticks.specs.declared.tick.Tick.TheVariants.{Byte}

-- these bytes, or n silent ticks if there are none
abbrev pub answered : ℕ → List ℕ → List Tick
answered n [] = silent n
answered n (b ∷ x) = map Byte (b ∷ x)
