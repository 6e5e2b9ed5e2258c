-- The causes of a status, for the outside of a run.
use Rattle.yasir_io.specs.declared.source.Source.{Ghosts as Source}
use Rattle.yasir_io.specs.declared.sink.Sink.{Ghosts as Sink}
use Rattle.command_ends.specs.Causes.{ReadsCause, SinkCause}
use Rattle.command_ends.specs.Flushes.{FlushesAtEnd}
use Rattle.command_ends.specs.Outside.{Outside}
use Rattle.command_ends.specs.declared.status.Status.{Status}

-- Holds if the counts of faults of the key, the input and the two sinks, and the flushes, are as
-- the status says.
pub record HasStreamCauses {K S O L D : Type 0} (k : Source K) (s : Source S) (o : Sink O)
    (l : Sink L) (before after : Outside K S O L D) (status : Status) : Type 0 where
  pub reads : ReadsCause (k.faults before.key) (k.faults after.key)
      (s.faults before.input) (s.faults after.input) status
  pub sinks : SinkCause (o.faults before.out) (o.faults after.out)
      (l.faults before.log) (l.faults after.log) status
  pub flushes : FlushesAtEnd o l before.out after.out before.log after.log status
