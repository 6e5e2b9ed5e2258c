use Rattle.std.proofs.Common.{◌≡◌, ◌+◌, ◌<◌, ℕ, slice_index_or}
use Rattle.yasir_ticks.proofs.delay_ring.DelayRing.front_silence.Given as goal

abbrev pub invariant-loop-n : goal.invariant-loop-n
invariant-loop-n g l = (k : ℕ) → k < l.n
    → slice_index_or l.self.marks (l.self.oldest + k) 0 ≡ 0
