-- Whether sinks were flushed between two moments.
use Rattle.std.specs.Prelude.{◌≡◌, false}
use Rattle.yasir_io.specs.declared.sink.Sink.{Ghosts as Sink}
use Rattle.yasir_io.specs.Flushing.{one_more}

module _ {S : Type 0} (sink : Sink S) (before now : S) where
  -- Holds if the sink was flushed exactly once, after all that was written to it.
  pub record IsFlushed : Type 0 where
    pub once : sink.flushes now ≡ one_more (sink.flushes before)
    pub all : sink.unflushed now ≡ false

  -- Holds if the sink wasn't flushed.
  abbrev pub IsNotFlushed : Type 0
  IsNotFlushed = sink.flushes now ≡ sink.flushes before

-- Holds if neither of two sinks was flushed.
pub record NoneFlushed {O L : Type 0} (o : Sink O) (l : Sink L) (out_before out_now : O)
    (log_before log_now : L) : Type 0 where
  pub out : IsNotFlushed o out_before out_now
  pub log : IsNotFlushed l log_before log_now
