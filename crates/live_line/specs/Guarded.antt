-- A box with a spacer behind it: what is sent is the spaced line of what the box makes.
use Rattle.std.specs.Prelude.{◌≡◌, ℕ, List, []}
use Rattle.yasir_ticks.specs.declared.tick.Tick.{Tick}
use Rattle.device_model.specs.Frames.{FrameRead}
use Rattle.link_format.specs.Setup.{Setup}
use Rattle.link_box.specs.declared.box_trait.LinkBox.{Ghosts as LinkBox}
use Rattle.line_spacer.specs.Spacing.{spaced_line}
use Rattle.line_texts.specs.Sending.{LineAndNotes}
use Rattle.line_commands.specs.SpacedTexts.{most_waiting}
use Rattle.line_commands.specs.declared.spacers.LineSpacer.{Ghosts as LineSpacer}
use Rattle.live_line.specs.PlainBoxes.{plain_made, plain_taken, IsPlainReady, PlainStands}
use Rattle.live_line.specs.declared.guarded_box.GuardedBox.{GuardedBox}

-- What is made of a line, if a spacer that reads as `reads` says, with room for `room` frames to
-- wait, takes the other line of a box. The notes are those of the box: no frame that the spacer
-- loses is noted.
abbrev pub guarded : (List Tick → List FrameRead) → ℕ → ℕ → LineAndNotes → LineAndNotes
guarded reads gap room made = record {
  other_line = λ line. spaced_line reads gap room (made.other_line line);
  note_lines = made.note_lines;
}

-- A box, the lines of its notes, and a spacer.
module _ {B N S : Type 0} (b : LinkBox B N) (line_of : N → List ℕ) (s : LineSpacer S) where
  -- what they make of a line
  abbrev pub guarded_made : Setup → LineAndNotes
  guarded_made setup = guarded s.reads s.gap most_waiting (plain_made b line_of setup)

  -- The box began with this setup and has taken this line, and the spacer has answered all that the
  -- box makes of it.
  pub record GuardedStands (value : GuardedBox B S) (setup : Setup) (line : List Tick) : Type 0
    where
      pub plain : PlainStands b line_of value.plain setup line
      pub answered : s.owes value.spacer ((plain_made b line_of setup).other_line line) [] []

  -- The box may take ticks, and the spacer has taken as many as the box.
  pub record IsGuardedReady (value : GuardedBox B S) : Type 0 where
    pub plain : IsPlainReady b line_of value.plain
    pub level : s.taken value.spacer ≡ plain_taken b line_of value.plain
