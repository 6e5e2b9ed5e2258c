use Rattle.line_commands.specs.Recording.{filled_recording}
use Rattle.std.proofs.Common.{◌-◌, ◌≤◌, ◌<◌, ◌∷◌, ℕ}
use Rattle.wire_commands.specs.Hearing.{SurelyHears}
use Rattle.yasir_ticks.specs.{Ticks.silent, TickRun.run_ticks}
use Rattle.wire_commands.proofs.heard.heard_silence.Given as goal

abbrev pub invariant-loop-count : goal.invariant-loop-count
invariant-loop-count l = record {
  some : 0 < l.count;
  within : l.count ≤ l.most;
  heard : (left : ℕ) → l.most ≤ left → SurelyHears (l.own ∷ run_ticks l.next)
      (filled_recording left l.line) (silent l.count);
}

abbrev pub decreases-loop-count : goal.decreases-loop-count
decreases-loop-count l = l.most - l.count
