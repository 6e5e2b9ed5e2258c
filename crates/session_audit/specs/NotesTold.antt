-- The frames that notes tell of.
use Rattle.std.specs.Prelude.{Option, Some, None}
use Rattle.link_box.specs.declared.seal_note.SealNote.{SealNote}
use Rattle.link_box.specs.declared.seal_note.SealNote.TheVariants.{Sealed, Unsealed}
use Rattle.link_box.specs.declared.check_note.CheckNote.{CheckNote}
use Rattle.link_box.specs.declared.check_note.CheckNote.TheVariants.{Passed, Refused, Dropped}
use Rattle.session_lists.specs.declared.frame_box.Numbered.{Numbered}

-- number and start of a note, if it is that of a sealed frame
abbrev pub sealed_told : SealNote → Option Numbered
sealed_told (Sealed number start len) = Some (record { number = number; start = start })
sealed_told (Unsealed start why) = None

-- number and start of a note, if it is that of a frame that has passed
abbrev pub passed_told : CheckNote → Option Numbered
passed_told (Passed number start len) = Some (record { number = number; start = start })
passed_told (Refused start why) = None
passed_told (Dropped start why) = None
