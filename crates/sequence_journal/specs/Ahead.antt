-- Numbers that are used in memory while the disk holds a number ahead of them.
use Rattle.std.specs.Prelude.{◌≡◌, ℕ, ◌≤◌, ◌+◌, ◌⊎◌, min, Option, IfSome}
use Rattle.yasir_io.specs.declared.disk.Slot.{Slot}
use Rattle.yasir_io.specs.Disks.{Slots, other_slot}
use Rattle.sequence_journal.specs.declared.journal.Journal.{Journal}
use Rattle.sequence_journal.specs.declared.ahead.AheadJournal.{AheadJournal}
use Rattle.sequence_journal.specs.declared.link.LinkId.{LinkId}
use Rattle.sequence_journal.specs.declared.numbers.TheConstants.{LIMIT}
use Rattle.sequence_journal.specs.Slots.{old_floor, slot_bytes}
use Rattle.sequence_journal.specs.Journal.{journal_link, journal_floor, kept_slot, Fits}
use Rattle.sequence_journal.specs.Journal.{IsCrashSafe, told_with}

-- Holds if no old slot holds a number above n.
abbrev pub OldWithin : ℕ → Option Slots → Type 0
OldWithin n told = IfSome told (λ slots. IfSome (old_floor slots) (λ old. old ≤ n))

-- the journal as the disk holds it
abbrev pub ahead_disk : AheadJournal → Journal
ahead_disk ahead = ahead.on_disk

-- the link that the journal serves
abbrev pub ahead_link : AheadJournal → LinkId
ahead_link ahead = journal_link ahead.on_disk

-- the floor of the disk
abbrev pub ahead_floor : AheadJournal → ℕ
ahead_floor ahead = journal_floor ahead.on_disk

-- the slot that keeps the floor of the disk
abbrev pub ahead_kept : AheadJournal → Slot
ahead_kept ahead = kept_slot ahead.on_disk

-- the last number used, in memory
abbrev pub ahead_number : AheadJournal → ℕ
ahead_number ahead = ahead.number

-- how far ahead of the last number used a settle writes
abbrev pub ahead_by : AheadJournal → ℕ
ahead_by ahead = ahead.ahead

-- the number that a settle writes, if it writes one
abbrev pub number_ahead : AheadJournal → ℕ
number_ahead ahead = min (ahead_number ahead + ahead_by ahead) LIMIT

-- Holds if the disk holds what the journal thinks it does, and no old slot holds a number above the
-- last one used.
pub record StandsAhead (ahead : AheadJournal) (told : Option Slots) : Type 0 where
  pub fits : Fits (ahead_disk ahead) told
  pub old : OldWithin (ahead_number ahead) told

-- Holds if no crash leaves less than the journal thinks the disk holds.
abbrev pub IsSafeAhead : AheadJournal → Option Slots → (Slots → Type 0) → Type 0
IsSafeAhead ahead told images = IsCrashSafe (ahead_disk ahead) told images

-- the slots after the first write of a lowering
abbrev pub lowered_first : AheadJournal → Option Slots → Option Slots
lowered_first ahead told = told_with told (other_slot (ahead_kept ahead))
    (slot_bytes (ahead_number ahead) (ahead_link ahead))

-- the slots after both: each holds the last number used
abbrev pub lowered_slots : AheadJournal → Option Slots → Option Slots
lowered_slots ahead told = told_with (lowered_first ahead told) (ahead_kept ahead)
    (slot_bytes (ahead_number ahead) (ahead_link ahead))

-- Holds if a lowering made none of its writes, the first, or both.
abbrev pub MayLower : AheadJournal → Option Slots → Option Slots → Type 0
MayLower ahead old new = (new ≡ old) ⊎ ((new ≡ lowered_first ahead old)
    ⊎ (new ≡ lowered_slots ahead old))
