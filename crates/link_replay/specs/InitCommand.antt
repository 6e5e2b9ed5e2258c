-- The command `init`: what it leaves on the disk, and when each status comes.
use Rattle.std.specs.Prelude.{◌≡◌, ℕ, Option, Some, None, IfSome}
use Rattle.yasir_io.specs.declared.sink.Sink.{Ghosts as Sink}
use Rattle.yasir_io.specs.declared.disk.SlotDisk.{Ghosts as SlotDisk}
use Rattle.yasir_io.specs.declared.disk.Slot.TheVariants.{A}
use Rattle.yasir_io.specs.Disks.{Slots, NoMore, OneImage}
use Rattle.sequence_journal.specs.declared.link.LinkId.{LinkId}
use Rattle.sequence_journal.specs.Slots.{slot_bytes, greatest}
use Rattle.sequence_journal.specs.Journal.{told_with, MaySet}
use Rattle.command_ends.specs.Outside.{Outside}
use Rattle.command_ends.specs.declared.status.Status.{Status}
use Rattle.command_ends.specs.declared.status.Status.TheVariants.{Done, WriteFault, JournalFault}
use Rattle.command_ends.specs.declared.status.Status.TheVariants.{HasJournal}

-- Holds if no slot held a number, slot A holds number 0 for this link now, all other slots are as
-- they were, and a crash leaves exactly these slots.
pub record IsNewJournal (link : LinkId) (old new : Option Slots) (may_leave : Slots → Type 0) :
    Type 0 where
  pub none : IfSome old (λ slots. greatest slots ≡ None)
  pub set : new ≡ told_with old A (slot_bytes 0 link)
  pub synced : OneImage new may_leave

-- Holds if a slot, old or new, holds a number, for whatever link. `floor` is the greatest of these
-- numbers, and nothing is written.
pub record IsOldJournal (old new : Option Slots) (may_leave_old may_leave_new : Slots → Type 0)
    (floor : ℕ) : Type 0 where
  pub stands : IfSome old (λ slots. greatest slots ≡ Some floor)
  pub same : new ≡ old
  pub images : NoMore may_leave_old may_leave_new
  pub images_back : NoMore may_leave_new may_leave_old

-- What each status says of the disk.
abbrev pub MakesJournal : LinkId → Option Slots → Option Slots → (Slots → Type 0)
    → (Slots → Type 0) → Status → Type 0
MakesJournal link old new may_leave_old may_leave_new Done =
    IsNewJournal link old new may_leave_new
MakesJournal link old new may_leave_old may_leave_new WriteFault =
    IsNewJournal link old new may_leave_new
MakesJournal link old new may_leave_old may_leave_new (HasJournal floor) =
    IsOldJournal old new may_leave_old may_leave_new floor
MakesJournal link old new may_leave_old may_leave_new JournalFault =
    MaySet old A (slot_bytes 0 link) new
MakesJournal link old new may_leave_old may_leave_new status = ⊥

-- Holds if the disk tells slots that hold no number.
abbrev pub IsBlank : Option Slots → Type 0
IsBlank told = (slots : Slots) × (told ≡ Some slots) × (greatest slots ≡ None)

-- What each status says of the sinks: if a journal is made, they are only flushed and hold what
-- they held, and in any other case they are as they were.
abbrev pub LeavesSinks : {O L : Type 0} → Sink O → Sink L → O → O → L → L → Status → Type 0
LeavesSinks o l out_before out_now log_before log_now Done =
    (o.held out_now ≡ o.held out_before) × (l.held log_now ≡ l.held log_before)
LeavesSinks o l out_before out_now log_before log_now WriteFault =
    (o.held out_now ≡ o.held out_before) × (l.held log_now ≡ l.held log_before)
LeavesSinks o l out_before out_now log_before log_now status =
    (out_now ≡ out_before) × (log_now ≡ log_before)

-- What `init` does: the sinks get nothing but a flush, and neither the key nor the input is read.
pub record Inits {K S O L D : Type 0} (o : Sink O) (l : Sink L) (d : SlotDisk D) (link : LinkId)
    (before after : Outside K S O L D) (status : Status) : Type 0 where
  pub journal : MakesJournal link (d.told before.disk) (d.told after.disk)
      (d.may_leave before.disk) (d.may_leave after.disk) status
  pub sinks : LeavesSinks o l before.out after.out before.log after.log status
  pub key : after.key ≡ before.key
  pub input : after.input ≡ before.input
