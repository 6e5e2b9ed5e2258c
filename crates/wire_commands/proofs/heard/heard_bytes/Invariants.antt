use Rattle.line_commands.specs.Recording.{filled_recording}
use Rattle.std.proofs.Common.{◌-◌, ◌≡◌, ◌≤◌, ◌<◌, ◌∷◌, ℕ, length, map}
use Rattle.wire_commands.specs.Hearing.{SurelyHears}
use Rattle.yasir_ticks.specs.{TickRun.run_ticks, declared.tick.Tick.TheVariants.Byte}
use Rattle.wire_commands.proofs.heard.heard_bytes.Given as goal

abbrev pub invariant-loop-count : goal.invariant-loop-count
invariant-loop-count l = record {
  some : 0 < l.count;
  within : l.count ≤ l.most;
  counted : length l.heard.items ≡ l.count;
  heard : (left : ℕ) → l.most ≤ left → SurelyHears (l.own ∷ run_ticks l.next)
      (filled_recording left l.line) (map Byte l.heard.items);
}

abbrev pub decreases-loop-count : goal.decreases-loop-count
decreases-loop-count l = l.most - l.count
