-- The lines of the transmitter's notes.
use Rattle.std.specs.Prelude.{ℕ, List, codes}
use Rattle.link_box.specs.declared.seal_note.SealNote.{SealNote}
use Rattle.link_box.specs.declared.seal_note.SealNote.TheVariants.{Sealed, Unsealed}
use Rattle.link_box.specs.declared.seal_note.UnsealedWhy.{UnsealedWhy}
use Rattle.link_box.specs.declared.seal_note.UnsealedWhy.TheVariants.{Early, Form, Spent}
use Rattle.line_commands.specs.NoteLines.{numbered_line, placed_line}

abbrev pub unsealed_word : UnsealedWhy → List ℕ
unsealed_word Early = codes " early\n"
unsealed_word Form = codes " form\n"
unsealed_word Spent = codes " spent\n"

-- `sealed N at S len L`, or `unsealed at S WHY`
abbrev pub seal_line : SealNote → List ℕ
seal_line (Sealed number start len) = numbered_line (codes "sealed ") number start len
seal_line (Unsealed start why) = placed_line (codes "unsealed at ") start (unsealed_word why)
