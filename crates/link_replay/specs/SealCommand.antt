-- The command `seal`: the transmitter over a recorded line of a device.
use Rattle.yasir_io.specs.declared.source.Source.{Ghosts as Source}
use Rattle.yasir_io.specs.declared.sink.Sink.{Ghosts as Sink}
use Rattle.yasir_io.specs.declared.disk.SlotDisk.{Ghosts as SlotDisk}
use Rattle.link_format.specs.declared.dir.Dir.{Dir}
use Rattle.command_ends.specs.Outside.{Outside}
use Rattle.command_ends.specs.declared.status.Status.{Status}
use Rattle.line_commands.specs.LinkBoxes.{seal_boxed, seal_rest}
use Rattle.line_commands.specs.ReplaysBox.{ReplaysBox}
use Rattle.command_ends.specs.declared.link.Profile.{Profile}
use Rattle.command_ends.specs.declared.link.Proto.{Proto}
use Rattle.command_ends.specs.Links.{link_of}

-- What `seal` does.
abbrev pub Seals : {K S O L D : Type 0} → Source K → Source S → Sink O → Sink L → SlotDisk D
    → Proto → Profile → Dir → Outside K S O L D → Outside K S O L D → Status → Type 0
Seals k s o l d proto profile dir before after status =
    ReplaysBox k s o l d (seal_boxed proto profile) (link_of proto profile dir) dir
    (seal_rest profile) before after status
