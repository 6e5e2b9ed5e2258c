-- What a journal represents, what its disk holds, and what a crash may leave of the disk.
use Rattle.std.specs.Prelude.{◌≡◌, ℕ, ◌≤◌, ◌⊎◌, List, Bool, false, Option, Some, IfSome}
use Rattle.std.specs.Prelude.{IsSomeAnd, option_map}
use Rattle.yasir_io.specs.declared.disk.Slot.{Slot}
use Rattle.yasir_io.specs.declared.disk.Slot.TheVariants.{A}
use Rattle.yasir_io.specs.Causes.{Rose}
use Rattle.yasir_io.specs.Disks.{Slots, slot_in, other_slot, with_slot}
use Rattle.sequence_journal.specs.declared.journal.Journal.{Journal}
use Rattle.sequence_journal.specs.declared.journal.InitError.{InitError}
use Rattle.sequence_journal.specs.declared.journal.InitError.TheVariants as Init
use Rattle.sequence_journal.specs.declared.link.LinkId.{LinkId}
use Rattle.sequence_journal.specs.Slots.{greatest, floor_of, floor_slot, slot_bytes}

-- the link that the journal serves
abbrev pub journal_link : Journal → LinkId
journal_link journal = journal.link

-- the floor of the journal: the last number used
abbrev pub journal_floor : Journal → ℕ
journal_floor journal = journal.floor

-- the slot that keeps the floor
abbrev pub kept_slot : Journal → Slot
kept_slot journal = journal.kept

-- whether a commit has failed
abbrev pub is_broken : Journal → Bool
is_broken journal = journal.broken

-- Holds if the disk fits the journal. The journal isn't broken. If the slots are told, their floor
-- for the journal's link is the journal's, and the slot that keeps it holds the greatest number for
-- this link.
pub record Fits (journal : Journal) (told : Option Slots) : Type 0 where
  pub whole : is_broken journal ≡ false
  pub floor : IfSome told (λ slots. floor_of (journal_link journal) slots
      ≡ Some (journal_floor journal))
  pub kept : IfSome told (λ slots. floor_slot (journal_link journal) slots
      ≡ Some (kept_slot journal))

-- Holds if all slots but this one are as they were.
abbrev pub AreSameBut : Slot → Slots → Slots → Type 0
AreSameBut slot old new = new ≡ with_slot old slot (slot_in new slot)

-- Holds if the slots differ from one of these images in at most this slot.
abbrev pub IsBut : Slot → (Slots → Type 0) → Slots → Type 0
IsBut slot images c = (d : Slots) × images d × AreSameBut slot d c

-- Holds if every image is the slots as a read gives them, except in the slot that doesn't keep the
-- floor.
abbrev pub IsKept : Journal → Option Slots → (Slots → Type 0) → Type 0
IsKept journal told images = (c : Slots) → images c
    → IsSomeAnd told (λ slots. AreSameBut (other_slot (kept_slot journal)) slots c)

-- Holds if the slots have a floor for a link, and it isn't below n.
abbrev pub HasFloorAtLeast : LinkId → ℕ → Slots → Type 0
HasFloorAtLeast link n slots = IsSomeAnd (floor_of link slots) (λ floor. n ≤ floor)

-- Holds if the slots have a floor for the journal's link, and it isn't below the journal's.
abbrev pub HasFloorFrom : Journal → Slots → Type 0
HasFloorFrom journal = HasFloorAtLeast (journal_link journal) (journal_floor journal)

-- Holds if the floor of the slots for a link is m or n.
abbrev pub IsEitherFloor : LinkId → ℕ → ℕ → Slots → Type 0
IsEitherFloor link m n slots = (floor_of link slots ≡ Some m) ⊎ (floor_of link slots ≡ Some n)

-- the slots as told, with one of them set to these bytes
abbrev pub told_with : Option Slots → Slot → List ℕ → Option Slots
told_with told slot bytes = option_map (λ slots. with_slot slots slot bytes) told

-- Holds if the slots are as they were, or as they were with one of them set to these bytes.
abbrev pub MaySet : Option Slots → Slot → List ℕ → Option Slots → Type 0
MaySet old slot bytes new = (new ≡ old) ⊎ (new ≡ told_with old slot bytes)

-- Why a journal isn't made. If a call failed, slot A may have been set. If a slot or an old slot
-- already holds a number, for whatever link, nothing was written.
abbrev pub RefusesInit : LinkId → Option Slots → Option Slots → ℕ → ℕ → InitError → Type 0
RefusesInit link old new before now Init.Fault =
    Rose before now × MaySet old A (slot_bytes 0 link) new
RefusesInit link old new before now (Init.Stands floor) =
    IfSome old (λ slots. greatest slots ≡ Some floor) × (new ≡ old) × (now ≡ before)

-- Holds if every image is the slots as a read gives them, except in the slot that doesn't keep the
-- floor, and has a floor for the journal's link that isn't below the journal's.
pub record IsCrashSafe (journal : Journal) (told : Option Slots) (images : Slots → Type 0) :
    Type 0 where
  pub kept : IsKept journal told images
  pub floors : (c : Slots) → images c → HasFloorFrom journal c
