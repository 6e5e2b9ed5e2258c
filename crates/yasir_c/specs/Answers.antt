-- What C is told of a step.
use Rattle.std.specs.Prelude.{ℕ, nat_lt, nat_eq, Option, Some, None, if◌then◌else◌}
use Rattle.yasir_ticks.specs.declared.tick.Tick.{Tick}
use Rattle.yasir_ticks.specs.declared.tick.Tick.TheVariants.{Silent, Byte}
use Rattle.yasir_io.specs.declared.disk.Slot.{Slot}
use Rattle.yasir_io.specs.declared.disk.Slot.TheVariants.{A, B}
use Rattle.link_box.specs.declared.seal_note.SealNote.TheVariants.{Sealed, Unsealed}
use Rattle.link_box.specs.declared.seal_note.UnsealedWhy.{UnsealedWhy}
use Rattle.link_box.specs.declared.seal_note.UnsealedWhy.TheVariants as Seal
use Rattle.link_box.specs.declared.check_note.CheckNote.TheVariants.{Passed, Refused, Dropped}
use Rattle.link_box.specs.declared.check_note.RefusedWhy.{RefusedWhy}
use Rattle.link_box.specs.declared.check_note.RefusedWhy.TheVariants as Refuse
use Rattle.link_box.specs.declared.check_note.DroppedWhy.{DroppedWhy}
use Rattle.link_box.specs.declared.check_note.DroppedWhy.TheVariants as Drop
use Rattle.any_box.specs.declared.any_note.AnyNote.{AnyNote}
use Rattle.any_box.specs.declared.any_note.AnyNote.TheVariants.{OfSealer, OfChecker}
use Rattle.any_box.specs.declared.held_box.HeldStep.{HeldStep}
use Rattle.any_box.specs.declared.owed.Commit.{Commit}
use Rattle.yasir_c.specs.declared.answer.Answer.{Answer}
use Rattle.yasir_c.specs.declared.answer.NoteNumbers.{NoteNumbers}

-- The numbers of the reasons why a burst is unsealed, refused or dropped.
abbrev pub unsealed_number : UnsealedWhy → ℕ
unsealed_number Seal.Early = 1
unsealed_number Seal.Form = 2
unsealed_number Seal.Spent = 3

abbrev pub refused_number : RefusedWhy → ℕ
refused_number Refuse.Trailer = 1
refused_number Refuse.Form = 2
refused_number Refuse.Number = 3
refused_number Refuse.Tag = 4

abbrev pub dropped_number : DroppedWhy → ℕ
dropped_number Drop.Busy = 1
dropped_number Drop.Head = 2

-- a note about a frame that has a number, and a note about a burst that has none
abbrev pub of_frame : ℕ → ℕ → ℕ → ℕ → NoteNumbers
of_frame note number start len =
    record { note = note; why = 0; len = len; number = number; start = start }

abbrev pub of_burst : ℕ → ℕ → ℕ → NoteNumbers
of_burst note start why = record { note = note; why = why; len = 0; number = 0; start = start }

-- the note of a step, as numbers
abbrev pub numbers_in : Option AnyNote → NoteNumbers
numbers_in None = of_burst 0 0 0
numbers_in (Some (OfSealer (Sealed number start len))) = of_frame 1 number start len
numbers_in (Some (OfSealer (Unsealed start why))) = of_burst 2 start (unsealed_number why)
numbers_in (Some (OfChecker (Passed number start len))) = of_frame 3 number start len
numbers_in (Some (OfChecker (Refused start why))) = of_burst 4 start (refused_number why)
numbers_in (Some (OfChecker (Dropped start why))) = of_burst 5 start (dropped_number why)

-- the number of a slot
abbrev pub slot_number_told : Slot → ℕ
slot_number_told A = 1
slot_number_told B = 2

-- whether a tick carries a byte, and that byte
abbrev pub tick_bytes : Tick → ℕ × ℕ
tick_bytes Silent = (0, 0)
tick_bytes (Byte b) = (1, b)

-- the tick and the note of a step, as C reads them
abbrev pub answer_of : HeldStep → Answer
answer_of step = record {
  number = (numbers_in step.note).number;
  start = (numbers_in step.note).start;
  len = (numbers_in step.note).len;
  is_byte = (tick_bytes step.tick).0;
  byte = (tick_bytes step.tick).1;
  commit = 0;
  note = (numbers_in step.note).note;
  why = (numbers_in step.note).why;
  unused = 0;
}

-- which slot must be written, and nothing else
abbrev pub asking : Commit → Answer
asking commit = record {
  number = 0;
  start = 0;
  len = 0;
  is_byte = 0;
  byte = 0;
  commit = slot_number_told commit.slot;
  note = 0;
  why = 0;
  unused = 0;
}

-- the tick with this number: a byte if it is below 256, silence if it is 256, and otherwise none
abbrev pub tick_in : ℕ → Option Tick
tick_in n = if nat_lt n 256 then Some (Byte n) else (if nat_eq n 256 then Some Silent else None)
