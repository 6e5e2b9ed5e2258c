use Rattle.std.proofs.Common.{◌≡◌, ◌≤◌, ◌-◌, length, take}
use Rattle.yasir_ticks.specs.{Reader.HasRefused, Slices.GoesOn, declared.fault.BadTicks.BadTicks}
use Rattle.yasir_ticks.proofs.reader.TickReader.feed_rest.Given as goal

abbrev pub invariant-loop-taken : goal.invariant-loop-taken
invariant-loop-taken l = record {
  within : l.taken ≤ length l.bytes;
  goes : GoesOn l.fn.self (take l.taken l.bytes) l.self;
  for_good : (bad : BadTicks) → HasRefused l.fn.self bad → (l.taken ≡ 0) × (l.self ≡ l.fn.self);
}

abbrev pub decreases-loop-taken : goal.decreases-loop-taken
decreases-loop-taken l = length l.bytes - l.taken
