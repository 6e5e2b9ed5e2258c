-- Two recordings that a mark separates.
use Rattle.std.specs.Prelude.{Bool, true, false, List, [], ◌∷◌}
use Rattle.yasir_ticks.specs.Ticks.{Item, ticks_in}
use Rattle.yasir_ticks.specs.Ticks.Item.{tick, mark}
use Rattle.yasir_ticks.specs.declared.tick.Tick.{Tick}

-- whether one of these items is a mark
abbrev pub lists_have_mark : List Item → Bool
lists_have_mark [] = false
lists_have_mark (tick t ∷ items) = lists_have_mark items
lists_have_mark (mark ∷ items) = true

-- the ticks before the first mark, or all of them if there is no mark
abbrev pub before_mark : List Item → List Tick
before_mark [] = []
before_mark (tick t ∷ items) = t ∷ before_mark items
before_mark (mark ∷ items) = []

-- the ticks after the first mark
abbrev pub behind_mark : List Item → List Tick
behind_mark [] = []
behind_mark (tick t ∷ items) = behind_mark items
behind_mark (mark ∷ items) = ticks_in items
