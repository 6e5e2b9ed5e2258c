-- How calls on both ways of a live line end, and which objects are the cause.
use Rattle.std.specs.Prelude.{◌≡◌, ℕ, Result, Ok, Err, Bool, true, false}
use Rattle.tick_drive.specs.declared.consumer.Stop.TheVariants.{WriteFault, JournalFault}
use Rattle.tick_drive.specs.declared.end.End.{End}
use Rattle.tick_drive.specs.declared.end.End.TheVariants as ends
use Rattle.live_line.specs.declared.ways.Way.{Way}
use Rattle.live_line.specs.declared.ways.Way.TheVariants.{Outgoing, Incoming}
use Rattle.live_ways.specs.declared.way_end.WayEnd.{WayEnd}
use Rattle.live_ways.specs.declared.way_end.WayEnd.TheVariants.{Whole, Refused, TooLong, ReadFault}
use Rattle.live_ways.specs.declared.way_end.WayEnd.TheVariants.{Stopped}
use Rattle.live_ways.specs.declared.way_end.WayFault.{WayFault}
use Rattle.live_ways.specs.declared.way_end.WayFault.TheVariants as fault

-- the end of the stream that a fault of a way in this line of the stream is
abbrev pub end_of : Way → ℕ → WayFault → WayEnd
end_of way line (fault.Refused why) = Refused way (record { line = line; why = why })
end_of way line (fault.TooLong what count) = TooLong way what count
end_of way line (fault.Stopped stop) = Stopped way stop

-- Holds if this is the fault of a way whose text ended its reading in this way.
abbrev pub IsFaultOf : End → WayFault → Type 0
IsFaultOf (ends.Refused bad) found = found ≡ fault.Refused bad.why
IsFaultOf (ends.TooLong what count) found = found ≡ fault.TooLong what count
IsFaultOf end found = ⊥

-- whether these are the same way
abbrev pub is_way : Way → Way → Bool
is_way Outgoing Outgoing = true
is_way Outgoing Incoming = false
is_way Incoming Outgoing = false
is_way Incoming Incoming = true

-- whether the disk of a way failed
abbrev pub is_disk_end : Way → WayEnd → Bool
is_disk_end way (Stopped of JournalFault) = is_way of way
is_disk_end way end = false

-- whether a write or a flush failed
abbrev pub is_write_end : WayEnd → Bool
is_write_end (Stopped of WriteFault) = true
is_write_end end = false

-- whether a read failed
abbrev pub is_read_end : WayEnd → Bool
is_read_end ReadFault = true
is_read_end end = false

-- whether a way was stopped
abbrev pub is_stopped_end : WayEnd → Bool
is_stopped_end (Stopped of stop) = true
is_stopped_end end = false

-- whether the floors of the disks are brought down behind a stream that ended in this way: unless a
-- fault ended it
abbrev pub is_lowered_end : WayEnd → Bool
is_lowered_end ReadFault = false
is_lowered_end (Stopped of stop) = false
is_lowered_end end = true

-- how calls ended
abbrev pub end_in : Result (Unit {0}) WayEnd → WayEnd
end_in (Ok x) = Whole
end_in (Err end) = end
