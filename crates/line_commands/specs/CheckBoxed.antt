-- What a receiver makes of a link, as its command shows it.
use Rattle.std.specs.Prelude.{ℕ, List}
use Rattle.std.specs.List.{flat_map}
use Rattle.line_rules.specs.Rules.{Rules}
use Rattle.link_format.specs.NumberedFrame.{last_number, numbers_of}
use Rattle.link_format.specs.Profile.{Profile}
use Rattle.frame_ending.specs.Walk.{Noted}
use Rattle.frame_ending.specs.Answers.{told_notes}
use Rattle.link_box.specs.Checking.{FullNote, brief_note, check_notes, received_line, passed}
use Rattle.line_commands.specs.Boxes.{Boxed}
use Rattle.line_commands.specs.CheckLines.{check_line}

-- the lines of the receiver's notes
abbrev pub check_lines : List (Noted FullNote) → List ℕ
check_lines notes = flat_map (λ n. check_line n.note) (told_notes brief_note notes)

-- what the receiver of a profile and a protocol makes of a link, if its journal begins at this
-- floor
abbrev pub checking : Profile → Rules → ℕ → Boxed
checking profile rules floor = record {
  other_line = λ link. received_line profile rules floor link;
  note_lines = λ link. check_lines (check_notes profile rules floor link);
  number = λ link. last_number floor (passed profile rules floor link);
  numbers = λ link. numbers_of (passed profile rules floor link);
}
