-- The parts of a source and a disk that never fail.
use Rattle.std.specs.Prelude.{ℕ, List, replicate}
use Rattle.yasir_io.specs.declared.steady.SteadySource.{SteadySource}
use Rattle.yasir_io.specs.declared.steady.SteadySlots.{SteadySlots}
use Rattle.yasir_io.specs.declared.disk.TheConstants.{OLD_SLOT_LEN}
use Rattle.yasir_io.specs.Disks.{Slots, OldSlots}

-- the bytes that are left
abbrev pub steady_bytes : SteadySource → List ℕ
steady_bytes source = source.bytes.now

-- old slots in which nothing was ever written
abbrev pub blank_old : OldSlots
blank_old = record { a = replicate OLD_SLOT_LEN 0; b = replicate OLD_SLOT_LEN 0 }

-- all slots, of which the old ones are blank
abbrev pub steady_slots : SteadySlots → Slots
steady_slots disk = record { a = disk.a; b = disk.b; old = blank_old }
