-- The lists of ticks between the marks of an input.
use Rattle.std.specs.Prelude.{ℕ, zero, suc, List, [], ◌∷◌}
use Rattle.yasir_ticks.specs.Ticks.{Item}
use Rattle.yasir_ticks.specs.Ticks.Item.{tick, mark}
use Rattle.yasir_ticks.specs.declared.tick.Tick.{Tick}

-- the ticks after `n` marks, up to the next mark
abbrev pub part : ℕ → List Item → List Tick
part n [] = []
part zero (tick t ∷ items) = t ∷ part zero items
part zero (mark ∷ items) = []
part (suc n) (tick t ∷ items) = part (suc n) items
part (suc n) (mark ∷ items) = part n items
