-- Calls that fail take no image away.
use Rattle.sequence_journal.specs.FailedCalls.{AreWhole, HasFailedCall, HaveFailedCalls, last_disk}
use Rattle.std.proofs.Common.{◌≡◌, List, [], ◌∷◌, length, inl, inr, refl}
use Rattle.yasir_io.specs.Disks.{Slots, slot_in, with_slot, Torn, Reaches}
use Rattle.yasir_io.specs.declared.disk.Slot.{Slot, TheVariants.A, TheVariants.B}
use Rattle.yasir_io.specs.declared.disk.{SlotDisk.Ghosts as SlotDisk, TheConstants.SLOT_LEN}

-- setting a slot to what it holds leaves the slots as they were
set-as-is : (slots : Slots) (slot : Slot) → slots ≡ with_slot slots slot (slot_in slots slot)
set-as-is slots A = refl
set-as-is slots B = refl

module _ {D : Type 0} (disk : SlotDisk D) where
  pub same-after-write : (before after : D) (slot : Slot) (image : Slots)
      → Reaches (Torn slot) (disk.may_leave before) (disk.may_leave after)
      → length (slot_in image slot) ≡ SLOT_LEN → disk.may_leave before image
      → disk.may_leave after image
  same-after-write before after slot image reaches size may =
      reaches image may image (slot_in image slot, size, set-as-is image slot)

  same-after-call : (before after : D) (image : Slots) → HasFailedCall disk before after
      → AreWhole image → disk.may_leave before image → disk.may_leave after image
  same-after-call before after image (inl write) whole may =
      same-after-write before after write.0 image write.1 (whole write.0) may
  same-after-call before after image (inr keeps) whole may = keeps image may

  pub same-after-calls : (before : D) (calls : List D) (image : Slots)
      → HaveFailedCalls disk before calls → AreWhole image → disk.may_leave before image
      → disk.may_leave (last_disk before calls) image
  same-after-calls before [] image have whole may = may
  same-after-calls before (after ∷ later) image have whole may =
      same-after-calls after later image have.1 whole
      (same-after-call before after image have.0 whole may)
