use Rattle.std.{proofs.Common.◌≡◌, proofs.Common.◌<◌, proofs.Common.ℕ, specs.Prelude.slice_index_or}
use Rattle.yasir_ticks.proofs.mark_runs.silence_in_front.Given as goal

abbrev pub invariant-loop-at : goal.invariant-loop-at
invariant-loop-at l = (k : ℕ) → k < l.at → slice_index_or l.marks k 0 ≡ 0
