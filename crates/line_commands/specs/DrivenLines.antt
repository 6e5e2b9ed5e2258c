-- What a run over an input does to a driven spacer and its texts.
use Rattle.std.specs.Prelude.{ℕ, List, [], Option}
use Rattle.yasir_io.specs.declared.sink.Sink.{Ghosts as Sink}
use Rattle.tick_drive.specs.Drive.{drive_answer_of}
use Rattle.tick_drive.specs.declared.end.End.{End}
use Rattle.line_texts.specs.Sending.{SinkTexts}
use Rattle.line_texts.specs.Texts.{texts_held, waiting_in}
use Rattle.line_commands.specs.SpacedLines.{KeepsHeld, SpacesItems, writing_behind}
use Rattle.line_commands.specs.SpacedTexts.{spaced_texts}
use Rattle.line_commands.specs.SpacesLine.{DrivesSpacer}
use Rattle.line_commands.specs.declared.spacers.LineSpacer.{Ghosts as LineSpacer}
use Rattle.line_commands.specs.declared.spaced_lines.SpacedLines.{SpacedLines}

-- What a run does over an input that had `in_before` left before it and has `in_now` left after it,
-- if the run ended with `end`.
pub record DrivesLines {B O L : Type 0} (b : LineSpacer B) (o : Sink O) (l : Sink L)
    (old new : SpacedLines B O L) (in_before in_now : Option (List ℕ)) (end : End) : Type 0 where
  pub driven : (start : SinkTexts) → SpacesItems b o l old start []
      → DrivesSpacer (spaced_texts b.reads b.gap) in_before in_now start
      (texts_held o l (writing_behind new)) (waiting_in new.texts.now) end
  pub keeps : KeepsHeld o l old new (drive_answer_of end)
