use Rattle.session_lists.specs.{FrameList.list_len, ReplayLists.Listens}
use Rattle.std.proofs.Common.{◌≡◌, ◌+◌, ◌-◌, ◌≤◌, ◌++◌, List}
use Rattle.yasir_ticks.specs.{Ticks.silent, declared.tick.Tick.Tick}
use Rattle.session_lists.proofs.hearing.hear_silence.Given as goal

abbrev pub invariant-loop-done : goal.invariant-loop-done
invariant-loop-done g l = record {
  within : l.done ≤ l.ticks;
  taken : g.V.Device.taken l.device ≡ g.V.Device.taken l.fn.device + l.done;
  few : list_len l.frames ≤ list_len l.fn.frames + l.done;
  ok : (line : List Tick) → Listens g.V.Device l.fn.device l.fn.frames line
      → Listens g.V.Device l.device l.frames (line ++ silent l.done);
}

abbrev pub decreases-loop-done : goal.decreases-loop-done
decreases-loop-done g l = l.ticks - l.done
