-- The command `read`: the frames that a device reads from a recorded line.
use Rattle.std.specs.Prelude.{◌≡◌}
use Rattle.yasir_io.specs.declared.source.Source.{Ghosts as Source}
use Rattle.yasir_io.specs.declared.sink.Sink.{Ghosts as Sink}
use Rattle.line_commands.specs.PrintsFrames.{PrintsFrames}
pub use Rattle.command_ends.specs.Links.{device_reads}
use Rattle.command_ends.specs.Outside.{Outside}
use Rattle.command_ends.specs.declared.status.Status.{Status}
use Rattle.command_ends.specs.declared.link.Proto.{Proto}

-- What `read` does: neither the key nor the disk is touched.
pub record ReadsOverInput {K S O L D : Type 0} (s : Source S) (o : Sink O) (l : Sink L) (proto : Proto)
    (before after : Outside K S O L D) (status : Status) : Type 0 where
  pub frames : PrintsFrames (device_reads proto) (s.left before.input) (s.left after.input)
      (o.held before.out) (o.held after.out) status
  pub log : l.held after.log ≡ l.held before.log
  pub key : after.key ≡ before.key
  pub disk : after.disk ≡ before.disk
