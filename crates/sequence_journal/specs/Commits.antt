-- What a commit does to a journal and its disk.
use Rattle.std.specs.Prelude.{◌≡◌, ℕ, ◌<◌, Option, IfSome, true}
use Rattle.yasir_io.specs.Disks.{Slots, OneImage, other_slot}
use Rattle.sequence_journal.specs.declared.journal.Journal.{Journal}
use Rattle.sequence_journal.specs.Slots.{slot_bytes}
use Rattle.sequence_journal.specs.Journal.{journal_link, journal_floor, kept_slot, is_broken}
use Rattle.sequence_journal.specs.Journal.{told_with, MaySet, IsEitherFloor}

-- Holds if a number above the floor was committed. The number is the floor now. The slot that
-- didn't keep the floor now does, and holds the number for the journal's link. A crash leaves only
-- the slots as a read gives them.
pub record HasCommitted (old new : Journal) (told_old told_new : Option Slots)
    (may_leave : Slots → Type 0) (number : ℕ) : Type 0 where
  pub link : journal_link new ≡ journal_link old
  pub above : journal_floor old < number
  pub floor : journal_floor new ≡ number
  pub set : told_new ≡ told_with told_old (other_slot (kept_slot old))
      (slot_bytes number (journal_link old))
  pub turned : kept_slot new ≡ other_slot (kept_slot old)
  pub synced : OneImage told_new may_leave

-- Holds if a commit failed. The journal is broken, and keeps its link, its floor and the slot that
-- keeps it. The other slot may have been set to the number, so the floor of the slots, if they are
-- told, is the journal's or the number.
pub record HasFailed (old new : Journal) (told_old told_new : Option Slots) (number : ℕ) :
    Type 0 where
  pub link : journal_link new ≡ journal_link old
  pub broken : is_broken new ≡ true
  pub floor : journal_floor new ≡ journal_floor old
  pub kept : kept_slot new ≡ kept_slot old
  pub slots : MaySet told_old (other_slot (kept_slot old)) (slot_bytes number (journal_link old))
      told_new
  pub floor_told : IfSome told_new
      (IsEitherFloor (journal_link old) (journal_floor old) number)
