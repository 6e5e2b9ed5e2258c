-- The lines of the receiver's notes.
use Rattle.std.specs.Prelude.{ℕ, List, codes}
use Rattle.link_box.specs.declared.check_note.CheckNote.{CheckNote}
use Rattle.link_box.specs.declared.check_note.CheckNote.TheVariants.{Passed, Refused, Dropped}
use Rattle.link_box.specs.declared.check_note.DroppedWhy.{DroppedWhy}
use Rattle.link_box.specs.declared.check_note.DroppedWhy.TheVariants.{Busy, Head}
use Rattle.link_box.specs.declared.check_note.RefusedWhy.{RefusedWhy}
use Rattle.link_box.specs.declared.check_note.RefusedWhy.TheVariants.{Trailer, Form, Number}
use Rattle.link_box.specs.declared.check_note.RefusedWhy.TheVariants.{Tag}
use Rattle.line_commands.specs.NoteLines.{numbered_line, placed_line}

abbrev pub refused_word : RefusedWhy → List ℕ
refused_word Trailer = codes " trailer\n"
refused_word Form = codes " form\n"
refused_word Number = codes " number\n"
refused_word Tag = codes " tag\n"

abbrev pub dropped_word : DroppedWhy → List ℕ
dropped_word Busy = codes " busy\n"
dropped_word Head = codes " head\n"

-- `passed N at S len L`, `refused at S WHY` or `dropped at S WHY`
abbrev pub check_line : CheckNote → List ℕ
check_line (Passed number start len) = numbered_line (codes "passed ") number start len
check_line (Refused start why) = placed_line (codes "refused at ") start (refused_word why)
check_line (Dropped start why) = placed_line (codes "dropped at ") start (dropped_word why)
