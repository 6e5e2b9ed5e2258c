-- Numbers used in memory that the disk doesn't hold yet, and what the disk is to hold.
use Rattle.std.specs.Prelude.{◌≡◌, ℕ, ◌≤◌, ◌<◌, ◌⊎◌, Option, Some, IfSome, IsSomeAnd}
use Rattle.yasir_io.specs.declared.disk.Slot.{Slot}
use Rattle.yasir_io.specs.Disks.{Slots, slot_in, other_slot}
use Rattle.sequence_journal.specs.declared.journal.Journal.{Journal}
use Rattle.sequence_journal.specs.declared.late.LateJournal.{LateJournal}
use Rattle.sequence_journal.specs.declared.late.Owed.{Owed}
use Rattle.sequence_journal.specs.declared.late.Owed.TheVariants.{Nothing, One, Even, Odd}
use Rattle.sequence_journal.specs.declared.link.LinkId.{LinkId}
use Rattle.sequence_journal.specs.declared.numbers.TheConstants.{LIMIT}
use Rattle.sequence_journal.specs.Slots.{floor_of, number_held, slot_bytes}
use Rattle.sequence_journal.specs.Journal.{journal_link, journal_floor, kept_slot, Fits}
use Rattle.sequence_journal.specs.Journal.{IsCrashSafe, told_with}

-- the last of these numbers, or the floor if there are none
abbrev pub last_owed : ℕ → Owed → ℕ
last_owed floor Nothing = floor
last_owed floor (One last) = last
last_owed floor (Even before last) = last
last_owed floor (Odd before last) = last

-- Holds if these numbers rise from the floor on, up to the limit.
abbrev pub Rises : ℕ → Owed → Type 0
Rises floor Nothing = Unit {0}
Rises floor (One last) = (floor < last) × (last ≤ LIMIT)
Rises floor (Even before last) = (floor < before) × (before < last) × (last ≤ LIMIT)
Rises floor (Odd before last) = (floor < before) × (before < last) × (last ≤ LIMIT)

-- the slots as a commit for each number would leave them, if this slot kept the floor before
abbrev pub with_owed : LinkId → Slot → Owed → Option Slots → Option Slots
with_owed link kept Nothing told = told
with_owed link kept (One last) told = told_with told (other_slot kept) (slot_bytes last link)
with_owed link kept (Even before last) told =
    told_with (told_with told (other_slot kept) (slot_bytes before link)) kept
    (slot_bytes last link)
with_owed link kept (Odd before last) told =
    told_with (told_with told (other_slot kept) (slot_bytes last link)) kept
    (slot_bytes before link)

-- the slots after the first write of a settle
abbrev pub with_first : LinkId → Slot → Owed → Option Slots → Option Slots
with_first link kept Nothing told = told
with_first link kept (One last) told = told_with told (other_slot kept) (slot_bytes last link)
with_first link kept (Even before last) told =
    told_with told (other_slot kept) (slot_bytes before link)
with_first link kept (Odd before last) told =
    told_with told (other_slot kept) (slot_bytes last link)

-- Holds if a settle made none of its writes, the first, or all.
abbrev pub MayOwe : LinkId → Slot → Owed → Option Slots → Option Slots → Type 0
MayOwe link kept owed old new = (new ≡ old) ⊎ ((new ≡ with_first link kept owed old)
    ⊎ (new ≡ with_owed link kept owed old))

-- the slot that keeps the floor after a commit for each number, if this one did before
abbrev pub kept_then : Slot → Owed → Slot
kept_then kept Nothing = kept
kept_then kept (One last) = other_slot kept
kept_then kept (Even before last) = kept
kept_then kept (Odd before last) = other_slot kept

-- the journal as the disk holds it
abbrev pub disk_journal : LateJournal → Journal
disk_journal late = late.on_disk

-- the link that the journal serves
abbrev pub late_link : LateJournal → LinkId
late_link late = journal_link late.on_disk

-- the floor of the disk
abbrev pub disk_floor : LateJournal → ℕ
disk_floor late = journal_floor late.on_disk

-- the last number used, in memory
abbrev pub late_number : LateJournal → ℕ
late_number late = last_owed (journal_floor late.on_disk) late.owed

-- the slots as a commit for each number would have left them
abbrev pub late_slots : LateJournal → Option Slots → Option Slots
late_slots late told = with_owed (late_link late) (kept_slot late.on_disk) late.owed told

-- Holds if a settle made none of its writes, the first, or all.
abbrev pub MaySettle : LateJournal → Option Slots → Option Slots → Type 0
MaySettle late old new = MayOwe (late_link late) (kept_slot late.on_disk) late.owed old new

-- the slot that a commit for each number would have left as the one that keeps the floor
abbrev pub late_kept : LateJournal → Slot
late_kept late = kept_then (kept_slot late.on_disk) late.owed

-- Holds if the numbers that the disk doesn't hold yet rise from its floor on.
abbrev pub IsRising : LateJournal → Type 0
IsRising late = Rises (disk_floor late) late.owed

-- Holds if the disk holds what the journal thinks it does, and the numbers that it doesn't hold yet
-- rise.
pub record Stands (late : LateJournal) (told : Option Slots) : Type 0 where
  pub fits : Fits (disk_journal late) told
  pub rising : IsRising late

-- Holds if no crash leaves less than the journal thinks the disk holds.
abbrev pub IsSafe : LateJournal → Option Slots → (Slots → Type 0) → Type 0
IsSafe late told images = IsCrashSafe (disk_journal late) told images

-- Holds if the slots have a floor for a link, from `low` to `high`.
abbrev pub HasFloorBetween : LinkId → ℕ → ℕ → Slots → Type 0
HasFloorBetween link low high slots =
    IsSomeAnd (floor_of link slots) (λ floor. (low ≤ floor) × (floor ≤ high))

-- Holds if the slot that keeps the floor holds the floor itself, so that no old slot does alone.
abbrev pub HoldsFloor : Journal → Option Slots → Type 0
HoldsFloor journal told = IfSome told (λ slots.
    number_held (journal_link journal) (slot_in slots (kept_slot journal))
    ≡ Some (journal_floor journal))

-- Holds if the slot that doesn't keep the floor holds this number.
abbrev pub HoldsInOther : Journal → ℕ → Option Slots → Type 0
HoldsInOther journal n told = IfSome told (λ slots.
    number_held (journal_link journal) (slot_in slots (other_slot (kept_slot journal)))
    ≡ Some n)
