-- Sinks that aren't flushed by several calls in a row.
use Rattle.std.proofs.Common.{refl, ◌∙◌}
use Rattle.yasir_io.specs.{Flushed.NoneFlushed, declared.sink.Sink.Ghosts as Sink}

module _ {O L : Type 0} (o : Sink O) (l : Sink L) where
  -- If there is no call, neither sink is flushed.
  pub none_flushed : (out : O) (log : L) → NoneFlushed o l out out log log
  none_flushed out log = record { out = refl; log = refl }

  -- If some calls flush neither sink, and neither do the calls after them, then all these calls
  -- flush neither.
  pub none_flushed_then : (out0 out1 out2 : O) (log0 log1 log2 : L)
      → NoneFlushed o l out0 out1 log0 log1 → NoneFlushed o l out1 out2 log1 log2
      → NoneFlushed o l out0 out2 log0 log2
  none_flushed_then out0 out1 out2 log0 log1 log2 first second =
      record { out = second.out ∙ first.out; log = second.log ∙ first.log }
