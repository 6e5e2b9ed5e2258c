-- What a live line's command says of the counts of faults of its key and its port, in the words of
-- the commands over a recording.
use Rattle.{link_format.specs.declared.dir.Dir.Dir, link_format.specs.Setup.Setup}
use Rattle.command_ends.specs.Causes.{ReadsCause, SinkCause}
use Rattle.command_ends.specs.{Outside.Outside, declared.status.Status.Status}
use Rattle.command_ends.specs.declared.status.Status.TheVariants.{Done, BadTicks, ReadFault}
use Rattle.command_ends.specs.declared.status.Status.TheVariants.{WriteFault, JournalFault}
use Rattle.command_ends.specs.declared.status.Status.TheVariants.{TooLong, BadKey, BadJournal}
use Rattle.command_ends.specs.declared.status.Status.TheVariants.{WrongLink}
use Rattle.line_commands.specs.Boxes.{Boxed}
use Rattle.line_commands.specs.declared.port.Output.{Output, TheVariants.Out, TheVariants.Log}
use Rattle.live_commands.specs.LineEnds.{ends_port, end_faults, line_ends, LivesOver, HasCounts}
use Rattle.live_commands.specs.LiveCommand.{PortCauses}
use Rattle.sequence_journal.specs.declared.link.LinkId.{LinkId}
use Rattle.std.proofs.Common.{◌≡◌, ℕ, ◌≤◌, ◌⊎◌, inl, inr, ap, refl, arith}
use Rattle.yasir_io.specs.{Causes.Rose, declared.disk.SlotDisk.Ghosts as SlotDisk}
use Rattle.yasir_io.specs.declared.{sink.Sink.Ghosts as Sink, source.Source.Ghosts as Source}

module _ {K S O L D : Type 0} (k : Source K) (s : Source S) (o : Sink O) (l : Sink L)
    (d : SlotDisk D) (boxed : Setup → Boxed) (link : LinkId) (dir : Dir) (rest ahead : ℕ)
    (before after : Outside K S O L D) where
  abbrev Reads : Status → Type 0
  Reads = ReadsCause (k.faults before.key) (k.faults after.key) (s.faults before.input)
      (s.faults after.input)

  reads_of : (status : Status) → LivesOver k s o l d boxed link dir rest ahead before after status
      → PortCauses (ends_port s o l) (line_ends before) (line_ends after) status → Reads status
  reads_of ReadFault (inl h) causes = (inl h.rose, h.never_falls, causes.never_falls)
  reads_of ReadFault (inr h) causes =
      (inr h.runs.1, omega (arith, h.calm), causes.never_falls)
  reads_of Done h causes = (h.calm, causes.no_read (λ e. cc))
  reads_of (BadTicks bad) h causes = (h.calm, causes.no_read (λ e. cc))
  reads_of (TooLong what count) h causes = (h.calm, causes.no_read (λ e. cc))
  reads_of JournalFault h causes = (h.calm, causes.never_falls)
  reads_of WriteFault h causes = (h.calm, causes.never_falls)
  reads_of (BadKey place) h causes = (h.calm, causes.no_read (λ e. cc))
  reads_of (BadJournal a b) h causes = (h.calm, causes.no_read (λ e. cc))
  reads_of (WrongLink slot) h causes = (h.calm, causes.no_read (λ e. cc))
  reads_of status h causes = absurd h.runs

  abbrev Sinks : Status → Type 0
  Sinks = SinkCause (o.faults before.out) (o.faults after.out) (l.faults before.log)
      (l.faults after.log)

  rose_at : (to : Output) × Rose (end_faults s o l (line_ends before) to)
      (end_faults s o l (line_ends after) to)
      → Rose (o.faults before.out) (o.faults after.out) ⊎ Rose (l.faults before.log)
      (l.faults after.log)
  rose_at (Out, rose) = inl rose
  rose_at (Log, rose) = inr rose

  sinks_of : (status : Status) → LivesOver k s o l d boxed link dir rest ahead before after status
      → PortCauses (ends_port s o l) (line_ends before) (line_ends after) status → Sinks status
  sinks_of Done h causes = (causes.no_write (λ e. cc) Out, causes.no_write (λ e. cc) Log)
  sinks_of WriteFault h causes = rose_at (causes.write refl)
  sinks_of ReadFault h causes =
      (causes.no_write (λ e. cc) Out, omega (arith, causes.no_write (λ e. cc) Log))
  sinks_of (BadTicks bad) h causes =
      (causes.no_write (λ e. cc) Out, omega (arith, causes.no_write (λ e. cc) Log))
  sinks_of (TooLong what count) h causes =
      (causes.no_write (λ e. cc) Out, omega (arith, causes.no_write (λ e. cc) Log))
  sinks_of JournalFault h causes =
      (causes.no_write (λ e. cc) Out, omega (arith, causes.no_write (λ e. cc) Log))
  sinks_of (BadKey place) h causes =
      (causes.no_write (λ e. cc) Out, omega (arith, causes.no_write (λ e. cc) Log))
  sinks_of (BadJournal a b) h causes =
      (causes.no_write (λ e. cc) Out, omega (arith, causes.no_write (λ e. cc) Log))
  sinks_of (WrongLink slot) h causes =
      (causes.no_write (λ e. cc) Out, omega (arith, causes.no_write (λ e. cc) Log))
  sinks_of status h causes = absurd h.runs

  pub counts_of : (status : Status) → LivesOver k s o l d boxed link dir rest ahead before after status
      → PortCauses (ends_port s o l) (line_ends before) (line_ends after) status
      → HasCounts k s o l before after status
  counts_of status h causes =
      record { reads = reads_of status h causes; sinks = sinks_of status h causes }
