-- The command `check`: the receiver over a recorded link.
use Rattle.yasir_io.specs.declared.source.Source.{Ghosts as Source}
use Rattle.yasir_io.specs.declared.sink.Sink.{Ghosts as Sink}
use Rattle.yasir_io.specs.declared.disk.SlotDisk.{Ghosts as SlotDisk}
use Rattle.link_format.specs.declared.dir.Dir.{Dir}
use Rattle.command_ends.specs.Outside.{Outside}
use Rattle.command_ends.specs.declared.status.Status.{Status}
use Rattle.line_commands.specs.LinkBoxes.{check_boxed, check_rest}
use Rattle.line_commands.specs.ReplaysBox.{ReplaysBox}
use Rattle.command_ends.specs.declared.link.Profile.{Profile}
use Rattle.command_ends.specs.declared.link.Proto.{Proto}
use Rattle.command_ends.specs.Links.{link_of}

-- What `check` does.
abbrev pub Checks : {K S O L D : Type 0} → Source K → Source S → Sink O → Sink L → SlotDisk D
    → Proto → Profile → Dir → Outside K S O L D → Outside K S O L D → Status → Type 0
Checks k s o l d proto profile dir before after status =
    ReplaysBox k s o l d (check_boxed proto profile) (link_of proto profile dir) dir check_rest
    before after status
