-- A command that ends with a flush of both sinks or with a write that failed: what it leaves in
-- them, and which objects aren't among the causes of its status.
use Rattle.{device_model.specs.Frames.FrameRead, line_commands.specs.PrintsFrames.PrintsFrames}
use Rattle.line_texts.specs.Sending.{LineAndNotes, SinkTexts}
use Rattle.link_replay.specs.Commands.{HasRecordedCauses, HasOwnCauses}
use Rattle.link_replay.specs.InitCommand.{LeavesSinks, MakesJournal, IsNewJournal}
use Rattle.link_replay.specs.declared.words.Command.{Command}
use Rattle.command_ends.specs.Causes.{InputCause, ReadsCause, DiskCause, SinkCause}
use Rattle.command_ends.specs.{Flushes.FlushesAtEnd, Outside.outside}
use Rattle.command_ends.specs.declared.status.Status.{Status}
use Rattle.command_ends.specs.declared.status.Status.TheVariants.{Done, ReadFault, WriteFault}
use Rattle.command_ends.specs.declared.status.Status.TheVariants.{JournalFault}
use Rattle.sequence_journal.specs.declared.link.LinkId.{LinkId}
use Rattle.line_commands.specs.SpacesLine.{SpacesLine}
use Rattle.std.proofs.Common.{◌≡◌, ◌⊎◌, ℕ, List, Option, Some, inl, inr, refl, subst, sym, arith}
use Rattle.yasir_io.specs.{Disks.Slots, declared.disk.SlotDisk.Ghosts as SlotDisk}
use Rattle.yasir_io.specs.declared.{sink.Sink.Ghosts as Sink, source.Source.Ghosts as Source}
use Rattle.yasir_ticks.specs.declared.tick.Tick.{Tick}

module _ {O L : Type 0} (o : Sink O) (l : Sink L) (out_before out_now : O)
    (log_before log_now : L) where
  pub flush-leaves : (status : Status) → (status ≡ Done) ⊎ (status ≡ WriteFault)
      → o.held out_now ≡ o.held out_before → l.held log_now ≡ l.held log_before
      → LeavesSinks o l out_before out_now log_before log_now status
  flush-leaves status (inl done) out log =
      subst (LeavesSinks o l out_before out_now log_before log_now) (sym done) (out, log)
  flush-leaves status (inr fault) out log =
      subst (LeavesSinks o l out_before out_now log_before log_now) (sym fault) (out, log)

pub journal-made : (link : LinkId) (old new : Option Slots) (may_old may_new : Slots → Type 0)
    (status : Status) → (status ≡ Done) ⊎ (status ≡ WriteFault)
    → IsNewJournal link old new may_new → MakesJournal link old new may_old may_new status
journal-made link old new may_old may_new status (inl done) made =
    subst (MakesJournal link old new may_old may_new) (sym done) made
journal-made link old new may_old may_new status (inr fault) made =
    subst (MakesJournal link old new may_old may_new) (sym fault) made

-- If neither the key nor the input was read, neither is a cause of the status.
pub reads-unread : (key input : ℕ) (status : Status) → (status ≡ Done) ⊎ (status ≡ WriteFault)
    → ReadsCause key key input input status
reads-unread key input status (inl done) =
    subst (ReadsCause key key input input) (sym done) (refl, refl)
reads-unread key input status (inr fault) =
    subst (ReadsCause key key input input) (sym fault) (refl, omega arith)

input-unread : (input : ℕ) (status : Status) → (status ≡ Done) ⊎ (status ≡ WriteFault)
    → InputCause input input status
input-unread input status (inl done) = subst (InputCause input input) (sym done) refl
input-unread input status (inr fault) = subst (InputCause input input) (sym fault) (omega arith)

disk-same : (before now : ℕ) (status : Status) → (status ≡ Done) ⊎ (status ≡ WriteFault)
    → now ≡ before → DiskCause before now status
disk-same before now status (inl done) same = subst (DiskCause before now) (sym done) same
disk-same before now status (inr fault) same = subst (DiskCause before now) (sym fault) same

-- If no input was read and no call of the disk failed, neither is a cause of the status.
pub own-unread : (input before now : ℕ) (status : Status)
    → (status ≡ Done) ⊎ (status ≡ WriteFault) → now ≡ before
    → InputCause input input status × DiskCause before now status
own-unread input before now status ends same =
    (input-unread input status ends, disk-same before now status ends same)

-- If a command reads its input but not its key, of these two only the input can be a cause.
reads-input : (key before now : ℕ) (status : Status) → InputCause before now status
    → ReadsCause key key before now status
reads-input key before now ReadFault h = (inr h.0, omega arith, h.1)
reads-input key before now WriteFault h = (refl, h)
reads-input key before now JournalFault h = (refl, h)
reads-input key before now status h = (refl, h)

-- The causes of the status of a command that reads its input but touches neither its key nor its
-- disk.
module _ {K S O L D : Type 0} (k : Source K) (s : Source S) (o : Sink O) (l : Sink L)
    (d : SlotDisk D) (asked : Command) (key : K) (in0 in1 : S) (out0 out1 : O) (log0 log1 : L)
    (disk : D) where
  pub input-causes : (status : Status) → InputCause (s.faults in0) (s.faults in1) status
      → SinkCause (o.faults out0) (o.faults out1) (l.faults log0) (l.faults log1) status
      → FlushesAtEnd o l out0 out1 log0 log1 status
      → HasOwnCauses (Some asked) (s.faults in0) (s.faults in1) (d.faults disk) (d.faults disk)
      status
      → HasRecordedCauses k s o l d (Some asked) (outside key in0 out0 log0 disk)
      (outside key in1 out1 log1 disk) status
  input-causes status input sinks flushes own = record {
    streams = record {
      reads = reads-input (k.faults key) (s.faults in0) (s.faults in1) status input;
      sinks = sinks;
      flushes = flushes;
    };
    own = own;
  }

-- If a command prints frames and doesn't touch the disk, the disk isn't a cause of its status.
pub disk-of-frames : (reads : List Tick → List FrameRead)
    (left_before left_now out_before out_now : Option (List ℕ)) (disk : ℕ) (status : Status)
    → PrintsFrames reads left_before left_now out_before out_now status
    → DiskCause disk disk status
disk-of-frames reads left_before left_now out_before out_now disk JournalFault h = absurd h
disk-of-frames reads left_before left_now out_before out_now disk status h = refl

pub disk-of-spacing : (made : LineAndNotes) (left_before left_now : Option (List ℕ))
    (held_before held_now : SinkTexts) (disk : ℕ) (status : Status)
    → SpacesLine made left_before left_now held_before held_now status
    → DiskCause disk disk status
disk-of-spacing made left_before left_now held_before held_now disk JournalFault h = absurd h
disk-of-spacing made left_before left_now held_before held_now disk status h = refl
