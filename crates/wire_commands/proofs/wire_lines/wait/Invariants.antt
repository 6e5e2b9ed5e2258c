use Rattle.line_commands.specs.Recording.{filled_recording}
use Rattle.std.proofs.Common.{◌-◌, ◌+◌, ◌≡◌, ◌≤◌, ℕ, take}
use Rattle.two_wire.specs.Gate.{gate_state, gate_side, gate_waits, gate_ticks}
use Rattle.wire_commands.specs.Hearing.{gate_through}
use Rattle.yasir_ticks.specs.Ticks.{silent}
use Rattle.wire_commands.proofs.wire_lines.wait.Given as goal

abbrev pub invariant-loop-done : goal.invariant-loop-done
invariant-loop-done l = record {
  within : l.done ≤ l.count;
  side : gate_side l.gate ≡ gate_side l.fn.gate;
  waits : gate_waits l.gate ≡ gate_waits l.fn.gate;
  ticks : gate_ticks l.gate ≡ gate_ticks l.fn.gate + l.done;
  state : (left : ℕ) → l.count ≤ left → gate_state l.gate
      ≡ gate_through (gate_side l.fn.gate) (gate_waits l.fn.gate) (gate_state l.fn.gate)
      (silent l.done) (take l.done (filled_recording left l.device));
}

abbrev pub decreases-loop-done : goal.decreases-loop-done
decreases-loop-done l = l.count - l.done
