-- The ticks of a run, and what they are among the items of a tick text.
use Rattle.std.specs.Prelude.{List, map, replicate}
use Rattle.yasir_ticks.specs.Ticks.{Item, silent}
use Rattle.yasir_ticks.specs.Ticks.Item.{tick}
use Rattle.yasir_ticks.specs.declared.tick.Tick.{Tick}
use Rattle.yasir_ticks.specs.declared.tick.Tick.TheVariants.{Silent, Byte}
use Rattle.yasir_ticks.specs.declared.tick_run.TickRun.{TickRun}
use Rattle.yasir_ticks.specs.declared.tick_run.TickRun.TheVariants.{Bytes, Silence}

-- the ticks of a run: its bytes, one for each tick, or that many silent ticks
abbrev pub run_ticks : TickRun → List Tick
run_ticks (Bytes bytes) = map Byte bytes.now
run_ticks (Silence n) = silent n

-- the ticks of a run as items
abbrev pub run_items : TickRun → List Item
run_items (Bytes bytes) = map (λ b. tick (Byte b)) bytes.now
run_items (Silence n) = replicate n (tick Silent)
