-- What a step over slots in memory does to a journal, and what its caller then owes.
use Rattle.std.specs.Prelude.{◌≡◌, ◌<◌, ◌⊎◌, Option, Some, None}
use Rattle.yasir_io.specs.Disks.{with_slot, other_slot}
use Rattle.yasir_io.specs.Steady.{steady_slots}
use Rattle.yasir_io.specs.declared.steady.SteadySlots.{SteadySlots}
use Rattle.sequence_journal.specs.declared.journal.Journal.{Journal}
use Rattle.sequence_journal.specs.Journal.{journal_link, journal_floor, kept_slot}
use Rattle.sequence_journal.specs.Slots.{slot_bytes}
use Rattle.any_box.specs.declared.owed.Commit.{Commit}

-- Holds if a number above the floor was committed. The number is the floor now. The slot that
-- didn't keep the floor now does, and holds the number. The other slot is as it was.
pub record CommitsOne (old new : Journal) (disk_old disk_new : SteadySlots) : Type 0 where
  pub link : journal_link new ≡ journal_link old
  pub above : journal_floor old < journal_floor new
  pub set : steady_slots disk_new ≡ with_slot (steady_slots disk_old) (other_slot (kept_slot old))
      (slot_bytes (journal_floor new) (journal_link old))
  pub turned : kept_slot new ≡ other_slot (kept_slot old)

-- Holds if nothing was committed, or one number was.
abbrev pub CommitsOneOrNone : Journal → Journal → SteadySlots → SteadySlots → Type 0
CommitsOneOrNone old new disk_old disk_new =
    ((new ≡ old) × (disk_new ≡ disk_old)) ⊎ CommitsOne old new disk_old disk_new

-- Holds if what the caller must write is what was committed: these bytes, into the slot that didn't
-- keep the floor.
pub record IsOwed (old new : Journal) (disk_old disk_new : SteadySlots) (commit : Commit) : Type 0 where
  pub commits : CommitsOne old new disk_old disk_new
  pub slot_is : commit.slot ≡ other_slot (kept_slot old)
  pub bytes_are : commit.bytes ≡ slot_bytes (journal_floor new) (journal_link old)

-- Holds if the caller must write what was committed, or must write nothing, and then the journal
-- and the slots are as they were.
abbrev pub OwesDisk : Journal → Journal → SteadySlots → SteadySlots → Option Commit → Type 0
OwesDisk old new disk_old disk_new None = (new ≡ old) × (disk_new ≡ disk_old)
OwesDisk old new disk_old disk_new (Some commit) = IsOwed old new disk_old disk_new commit
