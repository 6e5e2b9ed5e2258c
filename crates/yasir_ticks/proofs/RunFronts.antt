-- The first ticks of a run, by its kind.
use Rattle.std.proofs.Common.{◌≡◌, ◌∙◌, ℕ, ◌≤◌, List, map, take, ap}
use Rattle.std.{proofs.lemmas.List.take-map, proofs.lemmas.List.take-replicate, specs.Borrow.Bor}
use Rattle.yasir_ticks.specs.{TickRun.run_ticks, Ticks.silent}
use Rattle.yasir_ticks.specs.declared.tick.Tick.TheVariants.{Silent, Byte}
use Rattle.yasir_ticks.specs.declared.tick_run.TickRun.{TickRun}
use Rattle.yasir_ticks.specs.declared.tick_run.TickRun.TheVariants.{Bytes, Silence}

pub front_bytes : (run : TickRun) (bytes : Bor (List ℕ)) (n : ℕ) → run ≡ Bytes bytes
    → take n (run_ticks run) ≡ map Byte (take n bytes.now)
front_bytes run bytes n is = ap (λ r. take n (run_ticks r)) is ∙ take-map Byte n bytes.now

pub front_silence : (run : TickRun) (k n : ℕ) → n ≤ k → run ≡ Silence k
    → take n (run_ticks run) ≡ silent n
front_silence run k n few is = ap (λ r. take n (run_ticks r)) is ∙ take-replicate n k Silent few
