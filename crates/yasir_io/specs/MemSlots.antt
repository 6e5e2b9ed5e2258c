-- The parts of a disk in memory, and what a crash may leave of it.
use Rattle.std.specs.Prelude.{◌≡◌, ℕ, ◌≤◌, ◌⊎◌, List, [], ◌∷◌, ◌++◌, length, drop, Bool, false}
use Rattle.yasir_io.specs.declared.disk.Slot.{Slot}
use Rattle.yasir_io.specs.declared.disk.TheConstants.{SLOT_LEN}
use Rattle.yasir_io.specs.declared.disk.Slot.TheVariants.{A, B}
use Rattle.yasir_io.specs.declared.mem_slots.Moment.{Moment}
use Rattle.yasir_io.specs.declared.mem_slots.MemSlots.{MemSlots}
use Rattle.yasir_io.specs.Disks.{Slots, OldSlots, slot_in}
use Rattle.yasir_io.specs.Calls.{IsPlanned}

-- both old slots, as a read gives them at a moment
abbrev pub old_slots_at : Moment → OldSlots
old_slots_at moment = record { a = moment.old_a; b = moment.old_b }

-- all slots, as a read gives them at a moment
abbrev pub slots_at : Moment → Slots
slots_at moment = record { a = moment.a; b = moment.b; old = old_slots_at moment }

-- whether a slot was written since the last sync
abbrev pub is_written : Moment → Slot → Bool
is_written moment A = moment.a_written
is_written moment B = moment.b_written

-- Holds if a crash at a moment may leave the image: any bytes in each slot that was written since
-- the last sync, and all others as they read.
pub record IsImage (moment : Moment) (image : Slots) : Type 0 where
  pub size : (slot : Slot) → length (slot_in image slot) ≡ SLOT_LEN
  pub synced : (slot : Slot) → is_written moment slot ≡ false
      → slot_in image slot ≡ slot_in (slots_at moment) slot
  pub old : image.old ≡ old_slots_at moment

-- Holds if a crash at one of these moments may have left the image.
abbrev pub IsImageOfAny : List Moment → Slots → Type 0
IsImageOfAny [] image = ⊥
IsImageOfAny (moment ∷ moments) image = IsImage moment image ⊎ IsImageOfAny moments image

-- the slots now
abbrev pub mem_slots : MemSlots → Slots
mem_slots disk = slots_at disk.present

-- the calls that fail
abbrev pub slots_plan : MemSlots → List ℕ
slots_plan disk = disk.calls.plan.items

-- the calls made
abbrev pub slots_calls : MemSlots → ℕ
slots_calls disk = disk.calls.made

-- how often a call has failed
abbrev pub mem_faults : MemSlots → ℕ
mem_faults disk = disk.calls.faults.count

-- how many calls it has room to record
abbrev pub slots_room : MemSlots → ℕ
slots_room disk = disk.room

-- how many calls it has recorded
abbrev pub slots_recorded : MemSlots → ℕ
slots_recorded disk = length disk.past.items

-- Holds if the moment was added to the earlier ones, or none was.
abbrev pub MayAdd : List Moment → Moment → List Moment → Type 0
MayAdd past moment new = (new ≡ past ++ moment ∷ []) ⊎ (new ≡ past)

-- Holds if the next call fails: it is planned to, or no room is left for its record.
abbrev pub SlotsFail : MemSlots → Type 0
SlotsFail disk = IsPlanned (slots_plan disk) (slots_calls disk)
    ⊎ (slots_room disk ≤ slots_recorded disk)

-- Holds if a crash now may leave the image.
abbrev pub MayLeave : MemSlots → Slots → Type 0
MayLeave disk image = IsImage disk.present image

-- Holds if a crash since moment t might have left the image.
abbrev pub LeftSince : MemSlots → ℕ → Slots → Type 0
LeftSince disk t image = IsImage disk.present image ⊎ IsImageOfAny (drop t disk.past.items) image
