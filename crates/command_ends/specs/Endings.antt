-- The status of a run whose last lines were written.
use Rattle.tick_drive.specs.declared.consumer.Stop.TheVariants as stops
use Rattle.tick_drive.specs.declared.end.End.{End}
use Rattle.tick_drive.specs.declared.end.End.TheVariants.{Whole, Refused, Stopped}
use Rattle.tick_drive.specs.declared.end.End.TheVariants as ends
use Rattle.command_ends.specs.declared.status.Status.{Status}
use Rattle.command_ends.specs.declared.status.Status.TheVariants.{Done, BadTicks, ReadFault}
use Rattle.command_ends.specs.declared.status.Status.TheVariants.{WriteFault, JournalFault}
use Rattle.command_ends.specs.declared.status.Status.TheVariants.{TooLong, NoMemory}

abbrev pub status_of : End → Status
status_of Whole = Done
status_of (Refused bad) = BadTicks bad
status_of (ends.TooLong what count) = TooLong what count
status_of ends.ReadFault = ReadFault
status_of (Stopped stops.WriteFault) = WriteFault
status_of (Stopped stops.JournalFault) = JournalFault
status_of (Stopped stops.NoMemory) = NoMemory
