-- What a transmitter makes of a line, as its command shows it.
use Rattle.std.specs.Prelude.{ℕ, List}
use Rattle.std.specs.List.{flat_map}
use Rattle.line_rules.specs.Rules.{Rules}
use Rattle.link_format.specs.NumberedFrame.{last_number, numbers_of}
use Rattle.link_format.specs.Profile.{Profile}
use Rattle.frame_ending.specs.Walk.{Noted}
use Rattle.frame_ending.specs.Answers.{told_notes}
use Rattle.link_box.specs.Sealing.{FullNote, seal_notes, link_line, sealed}
use Rattle.seal_transmitter.specs.Answers.{brief_seal_note}
use Rattle.line_commands.specs.Boxes.{Boxed}
use Rattle.line_commands.specs.SealLines.{seal_line}

-- the lines of the transmitter's notes
abbrev pub seal_lines : List (Noted FullNote) → List ℕ
seal_lines notes = flat_map (λ n. seal_line n.note) (told_notes brief_seal_note notes)

-- what the transmitter of a profile and a protocol makes of a line, if its journal begins at this
-- floor
abbrev pub sealing : Profile → Rules → ℕ → Boxed
sealing profile rules floor = record {
  other_line = λ line. link_line profile rules floor line;
  note_lines = λ line. seal_lines (seal_notes profile rules floor line);
  number = λ line. last_number floor (sealed profile rules floor line);
  numbers = λ line. numbers_of (sealed profile rules floor line);
}
