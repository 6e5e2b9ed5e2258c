-- A disk of two slots and two old ones, and what a crash may leave of it.
use Rattle.std.specs.Prelude.{◌≡◌, ℕ, ◌≤◌, ◌⊎◌, List, length, Option, Some, IsSomeAnd}
use Rattle.yasir_io.specs.declared.disk.Slot.{Slot}
use Rattle.yasir_io.specs.declared.disk.TheConstants.{SLOT_LEN}
use Rattle.yasir_io.specs.declared.disk.Slot.TheVariants.{A, B}

-- what both old slots hold; no call writes them
pub record OldSlots : Type 0 where
  pub a : List ℕ
  pub b : List ℕ

-- what all slots hold, as a read gives them
pub record Slots : Type 0 where
  pub a : List ℕ
  pub b : List ℕ
  pub old : OldSlots

abbrev pub slot_in : Slots → Slot → List ℕ
slot_in slots A = slots.a
slot_in slots B = slots.b

abbrev pub old_slot_in : Slots → Slot → List ℕ
old_slot_in slots A = slots.old.a
old_slot_in slots B = slots.old.b

abbrev pub other_slot : Slot → Slot
other_slot A = B
other_slot B = A

-- the slots with one of them set to these bytes
abbrev pub with_slot : Slots → Slot → List ℕ → Slots
with_slot slots A bytes = record slots { a = bytes }
with_slot slots B bytes = record slots { b = bytes }

-- Holds if there are as many bytes as a slot has.
pub record IsSlot (bytes : List ℕ) : Type 0 where
  pub size : length bytes ≡ SLOT_LEN

-- Holds if the slot may hold any bytes, and all others are as they were.
abbrev pub Torn : Slot → Slots → Slots → Type 0
Torn slot old new = (bytes : List ℕ) × (length bytes ≡ SLOT_LEN) × (new ≡ with_slot old slot bytes)

-- Holds if each new image is an old one after a step.
abbrev pub Follows : (Slots → Slots → Type 0) → (Slots → Type 0) → (Slots → Type 0) → Type 0
Follows step old new = (c : Slots) → new c → (d : Slots) × old d × step d c

-- Holds if whatever the step makes of an old image is a new one.
abbrev pub Reaches : (Slots → Slots → Type 0) → (Slots → Type 0) → (Slots → Type 0) → Type 0
Reaches step old new = (d : Slots) → old d → (c : Slots) → step d c → new c

-- Holds if each new image is an old one.
abbrev pub NoMore : (Slots → Type 0) → (Slots → Type 0) → Type 0
NoMore old new = (c : Slots) → new c → old c

-- Holds if each image is the slots as read. If the slots aren't told, there is no image.
abbrev pub OneImage : Option Slots → (Slots → Type 0) → Type 0
OneImage told may_leave = (c : Slots) → may_leave c → told ≡ Some c

-- Holds if there was no image, or the slots are told and are an image as they read.
abbrev pub LeavesAsRead : (Slots → Type 0) → Option Slots → (Slots → Type 0) → Type 0
LeavesAsRead old told new = (c : Slots) → old c → IsSomeAnd told new

-- Holds if time goes on: a crash since t might have left what it might have left before, or what it
-- may leave now.
pub record Elapses (before now : ℕ) (past since : ℕ → Slots → Type 0) (may_leave : Slots → Type 0) :
    Type 0 where
  pub later : before ≤ now
  pub nothing_else : (t : ℕ) (c : Slots) → t ≤ before → since t c → past t c ⊎ may_leave c
  pub keeps : (t : ℕ) (c : Slots) → t ≤ before → past t c → since t c

-- Holds if a crash at any moment since `old` leaves an image that has P.
pub record LeavesOnly {D : Type 0} (moment : D → ℕ) (left_since : D → ℕ → Slots → Type 0)
    (old new : D) (P : Slots → Type 0) : Type 0 where
  pub later : moment old ≤ moment new
  pub each : (c : Slots) → left_since new (moment old) c → P c
  -- what this means for a run that began earlier
  pub before : (t : ℕ) (c : Slots) → t ≤ moment old → left_since new t c → left_since old t c ⊎ P c
