-- The exit status and the fault line of each status.
use Rattle.std.specs.Prelude.{ℕ, List, [], ◌++◌, Option, Some, None, codes, decimal}
use Rattle.hex.specs.Hex.{encode_lower}
use Rattle.yasir_ticks.specs.declared.fault.TickFault.{TickFault}
use Rattle.yasir_ticks.specs.declared.fault.TickFault.TheVariants.{Char, Odd, Long, Count, Empty}
use Rattle.yasir_ticks.specs.declared.fault.TickFault.TheVariants.{Mark}
use Rattle.tick_drive.specs.declared.end.TooMuch.{TooMuch}
use Rattle.tick_drive.specs.declared.end.TooMuch.TheVariants.{Ticks, Bytes}
use Rattle.yasir_io.specs.declared.reason.Reason.{Reason}
use Rattle.command_ends.specs.Reasons.{refused_line}
use Rattle.command_ends.specs.declared.reasons.Reasons.{Reasons}
use Rattle.command_ends.specs.declared.status.Status.{Status}
use Rattle.command_ends.specs.declared.status.Status.TheVariants.{Done, Usage, BadTicks, ReadFault}
use Rattle.command_ends.specs.declared.status.Status.TheVariants.{WriteFault, JournalFault}
use Rattle.command_ends.specs.declared.status.Status.TheVariants.{TooLong, HasJournal, BadKey}
use Rattle.command_ends.specs.declared.status.Status.TheVariants.{BadJournal, WrongLink, NoMemory}
use Rattle.command_ends.specs.declared.status.Status.TheVariants.{Unclean}
use Rattle.command_ends.specs.declared.status.Unclean.TheVariants.{Forged, Differs, Empty}

abbrev pub exit_status_of : Status → ℕ
exit_status_of Done = 0
exit_status_of Usage = 2
exit_status_of (BadTicks bad) = 4
exit_status_of ReadFault = 5
exit_status_of WriteFault = 6
exit_status_of JournalFault = 7
exit_status_of (TooLong what count) = 10
exit_status_of (HasJournal floor) = 11
exit_status_of (BadKey place) = 3
exit_status_of (BadJournal a b) = 8
exit_status_of (WrongLink slot) = 12
exit_status_of NoMemory = 9
exit_status_of (Unclean Forged) = 14
exit_status_of (Unclean Differs) = 15
exit_status_of (Unclean Empty) = 16

abbrev pub fault_word : TickFault → List ℕ
fault_word Char = codes "char"
fault_word Odd = codes "odd"
fault_word Long = codes "long"
fault_word Count = codes "count"
fault_word Empty = codes "empty"
fault_word Mark = codes "mark"

abbrev pub unit_word : TooMuch → List ℕ
unit_word Ticks = codes " ticks"
unit_word Bytes = codes " bytes"

-- The line of a read that failed, by the reasons that key and input tell. A key that tells a reason
-- has failed, and then the input wasn't read.
abbrev pub read_fault_line : Option Reason → Option Reason → List ℕ
read_fault_line (Some why) input =
    refused_line (codes "fault: read key") (codes "not ready") why
read_fault_line None (Some why) =
    refused_line (codes "fault: read input") (codes "not ready") why
read_fault_line None None = codes "fault: read\n"

-- the line of a call on the journal that failed, by the reason that the disk tells
abbrev pub journal_fault_line : Option Reason → List ℕ
journal_fault_line (Some why) =
    refused_line (codes "fault: journal") (codes "held by another run") why
journal_fault_line None = codes "fault: journal\n"

-- The line that is written last to the log, by the reasons that the run's objects tell. There is
-- none after `Done` or `Unclean`, nor after a write that failed.
abbrev pub fault_line : Reasons → Status → List ℕ
fault_line told Done = []
fault_line told Usage = codes "fault: usage\n"
fault_line told (BadTicks bad) = codes "fault: line " ++ decimal bad.line ++ codes " "
    ++ fault_word bad.why ++ codes "\n"
fault_line told ReadFault = read_fault_line told.key told.input
fault_line told WriteFault = []
fault_line told (TooLong what count) = codes "fault: too long " ++ decimal count ++ unit_word what
    ++ codes "\n"
fault_line told JournalFault = journal_fault_line told.journal
fault_line told NoMemory = codes "fault: memory\n"
fault_line told (Unclean verdict) = []
fault_line told (HasJournal floor) = codes "fault: journal stands at " ++ decimal floor ++ codes "\n"
fault_line told (BadKey place) = codes "fault: key at " ++ decimal place ++ codes "\n"
fault_line told (BadJournal a b) = codes "fault: bad journal " ++ encode_lower a ++ codes " "
    ++ encode_lower b ++ codes "\n"
fault_line told (WrongLink slot) = codes "fault: wrong link " ++ encode_lower slot ++ codes "\n"
