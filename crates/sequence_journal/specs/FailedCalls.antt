-- Failed calls of a disk, one after the other, and the images that they leave.
use Rattle.std.specs.Prelude.{◌≡◌, ◌⊎◌, List, [], ◌∷◌, length}
use Rattle.yasir_io.specs.declared.disk.Slot.{Slot}
use Rattle.yasir_io.specs.declared.disk.TheConstants.{SLOT_LEN}
use Rattle.yasir_io.specs.declared.disk.SlotDisk.{Ghosts as SlotDisk}
use Rattle.yasir_io.specs.Disks.{Slots, slot_in, Torn, Reaches, NoMore}

-- Holds if slot A and slot B have as many bytes as a slot has.
abbrev pub AreWhole : Slots → Type 0
AreWhole slots = (slot : Slot) → length (slot_in slots slot) ≡ SLOT_LEN

-- the disk after the last of these calls, or the one before them if there are none
abbrev pub last_disk : {D : Type 0} → D → List D → D
last_disk before [] = before
last_disk before (after ∷ later) = last_disk after later

module _ {D : Type 0} (disk : SlotDisk D) where
  -- What a failed call says about the images. After a write, each old image with any bytes in the
  -- slot of the write, as many as a slot has, is an image. After a read or a sync, each old image
  -- is one.
  abbrev pub HasFailedCall : D → D → Type 0
  HasFailedCall before after =
      ((slot : Slot) × Reaches (Torn slot) (disk.may_leave before) (disk.may_leave after))
      ⊎ NoMore (disk.may_leave after) (disk.may_leave before)

  -- Holds if each of these disks is what a failed call made of the one before it.
  abbrev pub HaveFailedCalls : D → List D → Type 0
  HaveFailedCalls before [] = Unit {0}
  HaveFailedCalls before (after ∷ later) = HasFailedCall before after × HaveFailedCalls after later
