use Rattle.session_lists.specs.ReplayLists.{Listens}
use Rattle.std.proofs.Common.{◌≡◌, ◌+◌, ◌-◌, ◌≤◌, ◌++◌, List, length, map, take}
use Rattle.yasir_ticks.specs.declared.tick.Tick.{Tick, TheVariants.Byte}
use Rattle.session_lists.proofs.hearing.hear_bytes.Given as goal

abbrev pub invariant-loop-done : goal.invariant-loop-done
invariant-loop-done g l = record {
  within : l.done ≤ length l.bytes;
  taken : g.V.Device.taken l.device ≡ g.V.Device.taken l.fn.device + l.done;
  ok : (line : List Tick) → Listens g.V.Device l.fn.device l.fn.frames line
      → Listens g.V.Device l.device l.frames (line ++ map Byte (take l.done l.bytes));
}

abbrev pub decreases-loop-done : goal.decreases-loop-done
decreases-loop-done g l = length l.bytes - l.done
