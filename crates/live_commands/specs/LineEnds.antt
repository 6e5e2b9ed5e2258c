-- A live line over the input and the two sinks of a run, as a port.
use Rattle.std.specs.Prelude.{ℕ, None}
use Rattle.yasir_io.specs.declared.source.Source.{Ghosts as Source}
use Rattle.yasir_io.specs.declared.sink.Sink.{Ghosts as Sink}
use Rattle.yasir_io.specs.declared.disk.SlotDisk.{Ghosts as SlotDisk}
use Rattle.link_format.specs.declared.dir.Dir.{Dir}
use Rattle.link_format.specs.Setup.{Setup}
use Rattle.sequence_journal.specs.declared.link.LinkId.{LinkId}
use Rattle.command_ends.specs.Causes.{ReadsCause, SinkCause}
use Rattle.command_ends.specs.Outside.{Outside}
use Rattle.command_ends.specs.declared.status.Status.{Status}
use Rattle.line_commands.specs.Boxes.{Boxed}
use Rattle.line_commands.specs.History.{History}
use Rattle.line_commands.specs.declared.port.Output.{Output}
use Rattle.line_commands.specs.declared.port.Output.TheVariants.{Out, Log}
use Rattle.line_commands.specs.declared.port.Port.{Ghosts as Port}
use Rattle.live_commands.specs.LiveCommand.{Around, around, LivesBox}

-- the input and the two sinks of a run
pub record LineEnds (S O L : Type 0) : Type 0 where
  pub input : S
  pub out : O
  pub log : L

-- those of an outside
abbrev pub line_ends : {K S O L D : Type 0} → Outside K S O L D → LineEnds S O L
line_ends at = record { input = at.input; out = at.out; log = at.log }

-- those of an outside, and its disk
abbrev pub line_around : {K S O L D : Type 0} → Outside K S O L D → Around (LineEnds S O L) D
line_around at = around (line_ends at) at.disk

module _ {S O L : Type 0} (s : Source S) (o : Sink O) (l : Sink L) where
  -- how often a write to an output, or a flush of it, has failed
  abbrev pub end_faults : LineEnds S O L → Output → ℕ
  end_faults ends Out = o.faults ends.out
  end_faults ends Log = l.faults ends.log

  -- what each sink tells that it holds; no sink tells in which order calls came
  abbrev pub end_history : LineEnds S O L → History
  end_history ends = record { calls = None; out = o.held ends.out; log = l.held ends.log }

  -- the input and the two sinks as a port
  abbrev pub ends_port : Port (LineEnds S O L)
  ends_port = record {
    history = end_history;
    left = λ ends. s.left ends.input;
    read_faults = λ ends. s.faults ends.input;
    write_faults = end_faults;
  }

module _ {K S O L D : Type 0} (k : Source K) (s : Source S) (o : Sink O) (l : Sink L)
    (d : SlotDisk D) where
  -- What each status says of a command that drives the input of a run through a box as it comes.
  abbrev pub LivesOver : (Setup → Boxed) → LinkId → Dir → ℕ → ℕ → Outside K S O L D
      → Outside K S O L D → Status → Type 0
  LivesOver boxed link dir rest ahead before after status =
      LivesBox k (ends_port s o l) d boxed link dir rest ahead before.key after.key
      (line_around before) (line_around after) status

module _ {K S O L D : Type 0} (k : Source K) (s : Source S) (o : Sink O) (l : Sink L) where
  -- Holds if the counts of faults of the key, the input and the two sinks are as the status says.
  pub record HasCounts (before after : Outside K S O L D) (status : Status) : Type 0 where
    pub reads : ReadsCause (k.faults before.key) (k.faults after.key)
        (s.faults before.input) (s.faults after.input) status
    pub sinks : SinkCause (o.faults before.out) (o.faults after.out)
        (l.faults before.log) (l.faults after.log) status
