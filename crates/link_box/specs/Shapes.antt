-- The shape of a list of ticks: which of them are silent, and which are bytes.
use Rattle.std.specs.Prelude.{ℕ, suc, Bool, true, false, List, [], ◌∷◌}
use Rattle.yasir_ticks.specs.declared.tick.Tick.{Tick}
use Rattle.yasir_ticks.specs.declared.tick.Tick.TheVariants.{Silent, Byte}

-- How many of the first ticks keep a shape, in which `true` is a byte and `false` is silence.
-- Silence follows the end of the ticks.
unfoldable pub kept : List Bool → List Tick → ℕ
kept [] ticks = 0
kept (true ∷ shape) [] = 0
kept (true ∷ shape) (Silent ∷ ticks) = 0
kept (true ∷ shape) (Byte b ∷ ticks) = suc (kept shape ticks)
kept (false ∷ shape) [] = suc (kept shape [])
kept (false ∷ shape) (Silent ∷ ticks) = suc (kept shape ticks)
kept (false ∷ shape) (Byte b ∷ ticks) = 0
