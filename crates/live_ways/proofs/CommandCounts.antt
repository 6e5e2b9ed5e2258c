-- Which counts of faults rose in a run of a live line of two ways.
use Rattle.command_ends.specs.Causes.{DiskCause, InputCause, SinkCause, ReadsCause}
use Rattle.command_ends.specs.declared.status.Status.{Status}
use Rattle.command_ends.specs.declared.status.Status.TheVariants as status
use Rattle.line_commands.specs.declared.port.Output.{Output}
use Rattle.line_commands.specs.declared.port.Output.TheVariants.{Out, Log}
use Rattle.line_commands.specs.declared.port.Port.{Ghosts as Port}
use Rattle.live_commands.specs.LineEnds.{LineEnds, ends_port}
use Rattle.live_line.specs.declared.ways.Way.{Way}
use Rattle.live_line.specs.declared.ways.Way.TheVariants.{Outgoing, Incoming}
use Rattle.live_ways.specs.BothDisks.{status_about}
use Rattle.live_ways.specs.Ends.{is_disk_end, is_read_end, is_write_end}
use Rattle.live_ways.specs.WayCommand.{status_of_end, way_of_end}
use Rattle.live_ways.specs.WayStreams.{HasStreamCounts}
use Rattle.live_ways.specs.declared.way_end.WayEnd.{WayEnd}
use Rattle.live_ways.specs.declared.way_end.WayEnd.TheVariants.{Whole, Refused, TooLong}
use Rattle.live_ways.specs.declared.way_end.WayEnd.TheVariants.{ReadFault, Stopped}
use Rattle.std.proofs.Common.{◌≡◌, ◌⊎◌, ℕ, Some, None, Option, true, false, refl, arith, inl, inr}
use Rattle.std.proofs.Common.{ap}
use Rattle.tick_drive.specs.Consumers.{IsDiskCause}
use Rattle.tick_drive.specs.Input.{IsReadCause}
use Rattle.tick_drive.specs.declared.consumer.Stop.TheVariants as stops
use Rattle.yasir_io.specs.Causes.{Rose}
use Rattle.yasir_io.specs.declared.sink.Sink.{Ghosts as Sink}
use Rattle.yasir_io.specs.declared.source.Source.{Ghosts as Source}

-- The count of a way's disk rose if the end is that of its failed journal.
pub disk_counts : (before now : ℕ) (way : Way) (end : WayEnd)
    → IsDiskCause before now (is_disk_end way end)
    → DiskCause before now (status_about (way_of_end end) (status_of_end end) way)
disk_counts before now Outgoing (Stopped Outgoing stops.JournalFault) cause = cause.failed refl
disk_counts before now Outgoing (Stopped Outgoing stops.WriteFault) cause = cause.same refl
disk_counts before now Outgoing (Stopped Outgoing stops.NoMemory) cause = cause.same refl
disk_counts before now Outgoing (Stopped Incoming stops.JournalFault) cause = cause.same refl
disk_counts before now Outgoing (Stopped Incoming stops.WriteFault) cause = cause.same refl
disk_counts before now Outgoing (Stopped Incoming stops.NoMemory) cause = cause.same refl
disk_counts before now Incoming (Stopped Incoming stops.JournalFault) cause = cause.failed refl
disk_counts before now Incoming (Stopped Incoming stops.WriteFault) cause = cause.same refl
disk_counts before now Incoming (Stopped Incoming stops.NoMemory) cause = cause.same refl
disk_counts before now Incoming (Stopped Outgoing stops.JournalFault) cause = cause.same refl
disk_counts before now Incoming (Stopped Outgoing stops.WriteFault) cause = cause.same refl
disk_counts before now Incoming (Stopped Outgoing stops.NoMemory) cause = cause.same refl
disk_counts before now Outgoing (Refused Outgoing bad) cause = cause.same refl
disk_counts before now Outgoing (Refused Incoming bad) cause = cause.same refl
disk_counts before now Incoming (Refused Outgoing bad) cause = cause.same refl
disk_counts before now Incoming (Refused Incoming bad) cause = cause.same refl
disk_counts before now Outgoing (TooLong Outgoing what count) cause = cause.same refl
disk_counts before now Outgoing (TooLong Incoming what count) cause = cause.same refl
disk_counts before now Incoming (TooLong Outgoing what count) cause = cause.same refl
disk_counts before now Incoming (TooLong Incoming what count) cause = cause.same refl
disk_counts before now way end cause = cause.same refl

-- None rose where a status isn't that of a failed journal.
pub disk_calm : (before now : ℕ) (way : Way) (of : Option Way) (at : Status)
    → (at ≡ status.JournalFault → ⊥) → now ≡ before → DiskCause before now (status_about of at way)
disk_calm before now way None at other same = same
disk_calm before now Outgoing (Some Incoming) at other same = same
disk_calm before now Incoming (Some Outgoing) at other same = same
disk_calm before now Outgoing (Some Outgoing) at other same = calm at other same
  where
    calm : (at : Status) → (at ≡ status.JournalFault → ⊥) → now ≡ before → DiskCause before now at
    calm status.JournalFault other same = absurd (other refl)
    calm at other same = same
disk_calm before now Incoming (Some Incoming) at other same = calm at other same
  where
    calm : (at : Status) → (at ≡ status.JournalFault → ⊥) → now ≡ before → DiskCause before now at
    calm status.JournalFault other same = absurd (other refl)
    calm at other same = same

module _ {S O L : Type 0} (s : Source S) (o : Sink O) (l : Sink L) (before after : LineEnds S O L)
  where
    abbrev p : Port (LineEnds S O L)
    p = ends_port s o l

    rose_at : (to : Output) × Rose (p.write_faults before to) (p.write_faults after to)
        → Rose (o.faults before.out) (o.faults after.out)
        ⊎ Rose (l.faults before.log) (l.faults after.log)
    rose_at (Out, rose) = inl rose
    rose_at (Log, rose) = inr rose

    reads_of : (end : WayEnd) → IsReadCause (s.faults before.input) (s.faults after.input)
        (is_read_end end) → InputCause (s.faults before.input) (s.faults after.input)
        (status_of_end end)
    reads_of ReadFault cause = (cause.failed refl, cause.never_falls)
    reads_of (Stopped way stops.WriteFault) cause = cause.never_falls
    reads_of (Stopped way stops.JournalFault) cause = cause.never_falls
    reads_of (Stopped way stops.NoMemory) cause = cause.same refl
    reads_of end cause = cause.same refl

    sinks_of : (end : WayEnd)
        → (is_write_end end ≡ false → (to : Output)
        → p.write_faults after to ≡ p.write_faults before to)
        → (is_write_end end ≡ true
        → (to : Output) × Rose (p.write_faults before to) (p.write_faults after to))
        → SinkCause (o.faults before.out) (o.faults after.out) (l.faults before.log)
        (l.faults after.log) (status_of_end end)
    sinks_of Whole same failed = (same refl Out, same refl Log)
    sinks_of (Stopped way stops.WriteFault) same failed = rose_at (failed refl)
    sinks_of (Stopped way stops.JournalFault) same failed =
        (same refl Out, omega (arith, same refl Log))
    sinks_of (Stopped way stops.NoMemory) same failed =
        (same refl Out, omega (arith, same refl Log))
    sinks_of end same failed = (same refl Out, omega (arith, same refl Log))

    pub stream_counts : (end : WayEnd) → IsReadCause (s.faults before.input) (s.faults after.input)
        (is_read_end end)
        → (is_write_end end ≡ false → (to : Output)
        → p.write_faults after to ≡ p.write_faults before to)
        → (is_write_end end ≡ true
        → (to : Output) × Rose (p.write_faults before to) (p.write_faults after to))
        → HasStreamCounts s o l before after (status_of_end end)
    stream_counts end reads same failed =
        record { reads = reads_of end reads; sinks = sinks_of end same failed }

    -- If nothing was touched, no count rose, and the status is that of neither a failed read nor a
    -- failed write.
    pub counts_same : (at : Status) → (at ≡ status.ReadFault → ⊥) → (at ≡ status.WriteFault → ⊥)
        → after ≡ before → HasStreamCounts s o l before after at
    counts_same at no_read no_write same = record {
      reads = calm at no_read (ap (λ e. s.faults e.input) same);
      sinks = still at no_write (ap (λ e. o.faults e.out) same) (ap (λ e. l.faults e.log) same);
    }
      where
        calm : (at : Status) → (at ≡ status.ReadFault → ⊥)
            → s.faults after.input ≡ s.faults before.input
            → InputCause (s.faults before.input) (s.faults after.input) at
        calm status.ReadFault none same = absurd (none refl)
        calm status.WriteFault none same = omega (arith, same)
        calm status.JournalFault none same = omega (arith, same)
        calm at none same = same

        still : (at : Status) → (at ≡ status.WriteFault → ⊥)
            → o.faults after.out ≡ o.faults before.out → l.faults after.log ≡ l.faults before.log
            → SinkCause (o.faults before.out) (o.faults after.out) (l.faults before.log)
            (l.faults after.log) at
        still status.WriteFault none out log = absurd (none refl)
        still status.Done none out log = (out, log)
        still (status.Unclean verdict) none out log = (out, log)
        still at none out log = (out, omega (arith, log))

-- A key was read whole before, and its count of faults is as it was.
pub reads_keyed : (key_before key_now before now : ℕ) (at : Status) → key_now ≡ key_before
    → InputCause before now at → ReadsCause key_before key_now before now at
reads_keyed key_before key_now before now status.ReadFault same cause =
    (inr cause.0, omega (arith, same), cause.1)
reads_keyed key_before key_now before now status.WriteFault same cause = (same, cause)
reads_keyed key_before key_now before now status.JournalFault same cause = (same, cause)
reads_keyed key_before key_now before now at same cause = (same, cause)
