-- Slots as numbers.
use Rattle.std.specs.Prelude.{ℕ}
use Rattle.yasir_io.specs.declared.disk.Slot.{Slot}
use Rattle.yasir_io.specs.declared.disk.Slot.TheVariants.{A, B}

abbrev pub slot_number : Slot → ℕ
slot_number A = 0
slot_number B = 1
