-- A box of a link as a command shows it.
use Rattle.std.specs.Prelude.{ℕ, List}
use Rattle.std.specs.List.{flat_map}
use Rattle.frame_ending.specs.Answers.{told_notes}
use Rattle.link_format.specs.NumberedFrame.{numbers_of}
use Rattle.link_format.specs.Setup.{Setup}
use Rattle.link_box.specs.Walking.{Walking, full_notes, other_line, frames_of, number_used_after}
use Rattle.line_commands.specs.Boxes.{Boxed}

-- what a box with this walk and this setup makes of a line, if its notes have these lines
abbrev pub boxed_of : {A : Type 0} → Walking A → (A → List ℕ) → Setup → Boxed
boxed_of walking line_of setup = record {
  other_line = λ line. other_line walking setup line;
  note_lines = λ line. flat_map (λ n. line_of n.note)
      (told_notes walking.brief (full_notes walking setup line));
  number = λ line. number_used_after walking setup line;
  numbers = λ line. numbers_of (frames_of walking setup line);
}
