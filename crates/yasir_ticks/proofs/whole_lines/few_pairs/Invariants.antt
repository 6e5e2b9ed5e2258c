use Rattle.std.proofs.Common.{◌≡◌, ◌*◌, ◌-◌, ◌≤◌, length, take, Ok}
use Rattle.hex.specs.Hex.{decode_of}
use Rattle.yasir_ticks.proofs.whole_lines.few_pairs.Given as goal

abbrev pub invariant-loop-at : goal.invariant-loop-at
invariant-loop-at l = record {
  at_is : l.at ≡ 2 * length l.line.items;
  few : l.at ≤ 6;
  decoded : decode_of (take l.at l.bytes) ≡ Ok l.line.items;
}

abbrev pub decreases-loop-at : goal.decreases-loop-at
decreases-loop-at l = 6 - l.at
