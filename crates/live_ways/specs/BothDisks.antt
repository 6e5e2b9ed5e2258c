-- The disks of the journals of both ways of a live line.
use Rattle.std.specs.Prelude.{Option, Some, None}
use Rattle.command_ends.specs.declared.status.Status.{Status}
use Rattle.command_ends.specs.declared.status.Status.TheVariants.{Done}
use Rattle.live_line.specs.declared.ways.Way.{Way}
use Rattle.live_line.specs.declared.ways.Way.TheVariants.{Outgoing, Incoming}
use Rattle.live_ways.specs.declared.both_disks.BothDisks.{BothDisks}

-- the disk of a way
abbrev pub disk_on : {D : Type 0} → BothDisks D → Way → D
disk_on disks Outgoing = disks.first
disk_on disks Incoming = disks.second

-- what a status that is about a way, if it is about one, says of the disk of each way: `Done` for a
-- way that it isn't about
abbrev pub status_about : Option Way → Status → Way → Status
status_about None status way = Done
status_about (Some Outgoing) status Outgoing = status
status_about (Some Outgoing) status Incoming = Done
status_about (Some Incoming) status Outgoing = Done
status_about (Some Incoming) status Incoming = status
