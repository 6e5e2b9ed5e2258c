-- Slots in a file, old ones and new: where each of them is, and how it is read and written there.
use Rattle.std.specs.Prelude.{◌≡◌, ℕ, ◌+◌, ◌-◌, ◌<◌, List, ◌++◌, length, replicate, Bool, true, false}
use Rattle.std.specs.Prelude.{Some, IfSome}
use Rattle.std.specs.Io.KnownBytes.{Appends, Consumes, Keeps, IsAtEnd}
use Rattle.std.specs.Fs.{new_options, with_read, with_write, with_create}
use Rattle.std.specs.declared.fs.OpenOptions.{OpenOptions}
use Rattle.std.specs.declared.io.Read.{Ghosts as Read}
use Rattle.std.specs.declared.io.Write.{Ghosts as Write}
use Rattle.std.specs.declared.io.Seek.{Ghosts as Seek}
use Rattle.yasir_io.specs.declared.disk.Slot.{Slot}
use Rattle.yasir_io.specs.declared.disk.Slot.TheVariants.{A, B}
use Rattle.yasir_io.specs.declared.disk.TheConstants.{SLOT_LEN, OLD_SLOT_LEN}
use Rattle.yasir_io.specs.declared.files.SlotFile.{SlotFile}
use Rattle.yasir_io.specs.declared.files.SlotFile.TheVariants.{Standing, New}

-- the options to open a file for reading only
abbrev pub for_reading : OpenOptions
for_reading = with_read new_options true

-- whether a missing file is made
abbrev pub is_made : SlotFile → Bool
is_made Standing = false
is_made New = true

-- the options to open a file of slots for reading and writing, with nothing cut off
abbrev pub for_slots : SlotFile → OpenOptions
for_slots kind = with_create (with_write (with_read new_options true) true) (is_made kind)

-- the place of the first byte of an old slot
abbrev pub old_place : Slot → ℕ
old_place A = 0
old_place B = 16

-- the place of the first byte of a slot
abbrev pub slot_place : Slot → ℕ
slot_place A = 32
slot_place B = 56

-- the place after the last byte of a slot
abbrev pub slot_end : Slot → ℕ
slot_end slot = slot_place slot + SLOT_LEN

-- how many bytes of the file the slots take
abbrev pub slots_end : ℕ
slots_end = 80

-- Holds if a file whose position is known is moved to a place, and its bytes stay.
pub record MovesTo {F : Type 0} (seek : Seek F) (place : ℕ) (old new : F) : Type 0 where
  pub position : IfSome (seek.stream_position old) (λ _. seek.stream_position new ≡ Some place)
  pub bytes : Keeps (seek.stream_bytes old) (seek.stream_bytes new)

-- Holds if these `size` bytes are the next ones that are left, in their order. Past the end they
-- are 0.
pub record ReadsNext {F : Type 0} (read : Read F) (size : ℕ) (old new : F) (bytes : List ℕ) :
    Type 0 where
  pub front : List ℕ
  pub is : bytes ≡ front ++ replicate (size - length front) 0
  pub taken : Consumes (read.remaining old) (read.remaining new) front
  pub end : length front < size → IsAtEnd (read.remaining new)

-- Holds if `size` bytes are read, from a place on.
pub record ReadsAt {F : Type 0} (seek : Seek F) (read : Read F) (size place : ℕ) (old new : F)
    (bytes : List ℕ) : Type 0 where
  pub between : F
  pub moves : MovesTo seek place old between
  pub reads : ReadsNext read size between new bytes

-- Holds if an old slot is read.
abbrev pub ReadsOld : {F : Type 0} → Seek F → Read F → Slot → F → F → List ℕ → Type 0
ReadsOld seek read slot old new bytes =
    ReadsAt seek read OLD_SLOT_LEN (old_place slot) old new bytes

-- Holds if a slot is read.
abbrev pub ReadsSlot : {F : Type 0} → Seek F → Read F → Slot → F → F → List ℕ → Type 0
ReadsSlot seek read slot old new bytes =
    ReadsAt seek read SLOT_LEN (slot_place slot) old new bytes

-- Holds if a slot is written, from its place on, and all of it.
pub record WritesSlot {F : Type 0} (seek : Seek F) (write : Write F) (slot : Slot) (old new : F)
    (bytes : List ℕ) : Type 0 where
  pub between : F
  pub moves : MovesTo seek (slot_place slot) old between
  pub writes : Appends (write.contents between) (write.contents new) bytes

-- Holds if a slot of a new file is written. Before that all bytes up to the end of the slots are
-- read, and are zeros.
pub record WritesFirst {F : Type 0} (seek : Seek F) (read : Read F) (write : Write F) (slot : Slot)
    (old new : F) (bytes : List ℕ) : Type 0 where
  pub looked : F
  pub zeros : ReadsAt seek read slots_end 0 old looked (replicate slots_end 0)
  pub writes : WritesSlot seek write slot looked new bytes

-- Holds if a slot of a file of this kind is written.
abbrev pub WritesIn : {F : Type 0} → Seek F → Read F → Write F → SlotFile → Slot → F → F → List ℕ
    → Type 0
WritesIn seek read write Standing slot old new bytes = WritesSlot seek write slot old new bytes
WritesIn seek read write New slot old new bytes = WritesFirst seek read write slot old new bytes
