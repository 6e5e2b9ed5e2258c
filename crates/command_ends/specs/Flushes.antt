-- When the two sinks are flushed: on the way to `Done` or `Unclean`, and nowhere else.
use Rattle.std.specs.Prelude.{◌⊎◌}
use Rattle.yasir_io.specs.Causes.{Rose}
use Rattle.yasir_io.specs.Flushed.{IsFlushed, IsNotFlushed, NoneFlushed}
use Rattle.yasir_io.specs.declared.sink.Sink.{Ghosts as Sink}
use Rattle.command_ends.specs.declared.status.Status.{Status}
use Rattle.command_ends.specs.declared.status.Status.TheVariants.{Done, WriteFault, Unclean}

module _ {O L : Type 0} (o : Sink O) (l : Sink L) (out_before out_now : O) (log_before log_now : L)
  where
    -- Holds if both sinks were flushed exactly once, after all that was written to them.
    pub record BothFlushed : Type 0 where
      pub out : IsFlushed o out_before out_now
      pub log : IsFlushed l log_before log_now

    -- Holds if `out` was flushed, and then the flush of the log failed.
    pub record LogNotFlushed : Type 0 where
      pub out : IsFlushed o out_before out_now
      pub log : IsNotFlushed l log_before log_now
      pub failed : Rose (l.faults log_before) (l.faults log_now)

    -- Holds if the sinks were flushed as this status says.
    abbrev pub FlushesAtEnd : Status → Type 0
    FlushesAtEnd Done = BothFlushed
    FlushesAtEnd (Unclean verdict) = BothFlushed
    FlushesAtEnd WriteFault = NoneFlushed o l out_before out_now log_before log_now ⊎ LogNotFlushed
    FlushesAtEnd status = NoneFlushed o l out_before out_now log_before log_now
