-- A source and two sinks as one port: their faults, and what they tell.
use Rattle.std.specs.Prelude.{ℕ, None}
use Rattle.line_commands.specs.History.{History}
use Rattle.yasir_io.specs.declared.sink.Sink.{Ghosts as Sink}
use Rattle.line_commands.specs.declared.port.Output.{Output}
use Rattle.line_commands.specs.declared.port.Output.TheVariants.{Out, Log}
use Rattle.line_commands.specs.declared.streams.Streams.{Streams}

-- how often a write to an output, or a flush of it, has failed
abbrev pub stream_faults : {S O L : Type 0} → Sink O → Sink L → Streams S O L → Output → ℕ
stream_faults o l streams Out = o.faults streams.out
stream_faults o l streams Log = l.faults streams.log

-- what each sink tells that it holds; no sink tells in which order calls came
abbrev pub stream_history : {S O L : Type 0} → Sink O → Sink L → Streams S O L → History
stream_history o l streams = record {
  calls = None;
  out = o.held streams.out;
  log = l.held streams.log;
}
