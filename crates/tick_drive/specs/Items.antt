-- Ticks as items of a tick text.
use Rattle.std.specs.Prelude.{ℕ, List, map, replicate}
use Rattle.yasir_ticks.specs.Ticks.{Item}
use Rattle.yasir_ticks.specs.Ticks.Item.{tick}
use Rattle.yasir_ticks.specs.declared.tick.Tick.{Tick}
use Rattle.yasir_ticks.specs.declared.tick.Tick.TheVariants.{Silent, Byte}

abbrev pub tick_item : Tick → Item
tick_item t = tick t

-- bytes, one for each tick
abbrev pub bytes_as_items : List ℕ → List Item
bytes_as_items bytes = map (λ b. tick (Byte b)) bytes

-- n silent ticks
abbrev pub silent_items : ℕ → List Item
silent_items n = replicate n (tick Silent)
