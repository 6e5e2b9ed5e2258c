-- The receiver as a box of a link.
use Rattle.std.specs.Prelude.{ℕ}
use Rattle.line_rules.specs.declared.line_rules.LineRules.{Ghosts as LineRules}
use Rattle.link_format.specs.declared.tag.Mac.{Ghosts as Mac}
use Rattle.link_format.specs.Profile.{profile_of}
use Rattle.link_box.specs.Walking.{Walking}
use Rattle.sequence_journal.specs.declared.numbers.TheConstants.{LIMIT}
use Rattle.link_box.specs.Verdicts.{CheckState}
use Rattle.link_box.specs.Checking.{FullNote, checker, at_floor, brief_note, passed_in}
use Rattle.link_box.specs.declared.check_note.CheckNote.{CheckNote}

-- the walk of the receiver, for the rules of a protocol and a MAC, with words of this many bytes
abbrev pub check_walking : {R M : Type 0} → LineRules R → Mac M → ℕ → Walking CheckNote
check_walking proto macs word_len = record {
  State = CheckState;
  Full = FullNote;
  walker = λ setup. checker (profile_of proto macs word_len LIMIT setup) proto.rules;
  begun = λ setup. at_floor setup.floor;
  brief = brief_note;
  frame_in = passed_in;
}
