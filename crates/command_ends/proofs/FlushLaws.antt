-- What holds of the flushes of two sinks also holds with the calls before and after them.
use Rattle.std.proofs.Common.{◌≡◌, inl, inr, refl, sym, subst, [], ◌∙◌}
use Rattle.yasir_io.{proofs.FlushLaws.none_flushed_then, specs.Causes.Rose}
use Rattle.yasir_io.specs.Flushed.{IsFlushed, IsNotFlushed, NoneFlushed}
use Rattle.yasir_io.specs.{Flushing.one_more, declared.sink.Sink.Ghosts as Sink}
use Rattle.tick_drive.specs.declared.consumer.Stop.TheVariants as stops
use Rattle.command_ends.specs.{Endings.status_of, Flushes.FlushesAtEnd, Reasons.untold}
use Rattle.command_ends.specs.Statuses.{fault_line}
use Rattle.command_ends.specs.declared.status.Status.{Status}
use Rattle.command_ends.specs.declared.status.Status.TheVariants.{Done, WriteFault, Unclean}
use Rattle.tick_drive.specs.declared.end.End.{End, TheVariants.Whole}
use Rattle.tick_drive.specs.declared.end.End.TheVariants.{Stopped}

-- If a sink isn't flushed by some calls, and is flushed by the next ones, it is flushed by all of
-- them.
flushed_then : {S : Type 0} (sink : Sink S) (s0 s1 s2 : S) → IsNotFlushed sink s0 s1
    → IsFlushed sink s1 s2 → IsFlushed sink s0 s2
flushed_then sink s0 s1 s2 before flushed = record {
  once = subst (λ n. sink.flushes s2 ≡ one_more n) before flushed.once;
  all = flushed.all;
}

module _ {O L : Type 0} (o : Sink O) (l : Sink L) where
  -- If neither sink was flushed before the flushes at the end, and the log hadn't failed, then what
  -- holds of these flushes holds of the whole run.
  pub flushes_of_whole : (out0 out1 out2 : O) (log0 log1 log2 : L)
      → NoneFlushed o l out0 out1 log0 log1 → l.faults log1 ≡ l.faults log0
      → (status : Status) → FlushesAtEnd o l out1 out2 log1 log2 status
      → FlushesAtEnd o l out0 out2 log0 log2 status
  flushes_of_whole out0 out1 out2 log0 log1 log2 none calm Done h = record {
    out = flushed_then o out0 out1 out2 none.out h.out;
    log = flushed_then l log0 log1 log2 none.log h.log;
  }
  flushes_of_whole out0 out1 out2 log0 log1 log2 none calm (Unclean verdict) h = record {
    out = flushed_then o out0 out1 out2 none.out h.out;
    log = flushed_then l log0 log1 log2 none.log h.log;
  }
  flushes_of_whole out0 out1 out2 log0 log1 log2 none calm WriteFault (inl h) =
      inl (none_flushed_then o l out0 out1 out2 log0 log1 log2 none h)
  flushes_of_whole out0 out1 out2 log0 log1 log2 none calm WriteFault (inr h) = inr (record {
    out = flushed_then o out0 out1 out2 none.out h.out;
    log = h.log ∙ none.log;
    failed = subst (λ n. Rose n (l.faults log2)) calm h.failed;
  })
  flushes_of_whole out0 out1 out2 log0 log1 log2 none calm status h =
      none_flushed_then o l out0 out1 out2 log0 log1 log2 none h

  -- If a run that was refused, or failed, has flushed neither sink, its flushes fit its status.
  pub flushes_of_end : (out0 out1 : O) (log0 log1 : L) (end : End) → (end ≡ Whole → ⊥)
      → NoneFlushed o l out0 out1 log0 log1 → FlushesAtEnd o l out0 out1 log0 log1 (status_of end)
  flushes_of_end out0 out1 log0 log1 Whole partial none = absurd (partial refl)
  flushes_of_end out0 out1 log0 log1 (Stopped stops.WriteFault) partial none = inl none
  flushes_of_end out0 out1 log0 log1 end partial none = none

  -- The fault line after a command isn't flushed, so the flushes still fit the status. `Done`,
  -- `Unclean` and `WriteFault` have no fault line.
  pub flushes_after : (out0 out1 : O) (log0 log1 log2 : L) (status : Status)
      → FlushesAtEnd o l out0 out1 log0 log1 status
      → (fault_line untold status ≡ [] → log2 ≡ log1) → IsNotFlushed l log1 log2
      → FlushesAtEnd o l out0 out1 log0 log2 status
  flushes_after out0 out1 log0 log1 log2 Done h same not_flushed =
      subst (λ log. FlushesAtEnd o l out0 out1 log0 log Done) (sym (same refl)) h
  flushes_after out0 out1 log0 log1 log2 (Unclean verdict) h same not_flushed =
      subst (λ log. FlushesAtEnd o l out0 out1 log0 log (Unclean verdict)) (sym (same refl)) h
  flushes_after out0 out1 log0 log1 log2 WriteFault h same not_flushed =
      subst (λ log. FlushesAtEnd o l out0 out1 log0 log WriteFault) (sym (same refl)) h
  flushes_after out0 out1 log0 log1 log2 status h same not_flushed =
      record { out = h.out; log = not_flushed ∙ h.log }
