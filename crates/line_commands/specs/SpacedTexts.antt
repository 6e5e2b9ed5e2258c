-- The texts that a spacer makes of a line: the spaced line, and a line for each frame that is lost.
use Rattle.std.specs.Prelude.{ℕ, List, codes}
use Rattle.std.specs.List.{flat_map}
use Rattle.yasir_ticks.specs.declared.tick.Tick.{Tick}
use Rattle.device_model.specs.Frames.{FrameRead}
use Rattle.command_ends.specs.FrameLine.{frame_line_of}
use Rattle.line_spacer.specs.Arrivals.{Arrival}
use Rattle.line_spacer.specs.Spacing.{lost_of, spaced_line}
use Rattle.line_texts.specs.Sending.{LineAndNotes}

-- how many frames may wait
abbrev pub most_waiting : ℕ
most_waiting = 64

-- the line for a frame that is lost, with the tick of its first byte
abbrev pub lost_line : FrameRead → List ℕ
lost_line read = frame_line_of (codes "lost at ") read

-- the lines for frames that are lost
abbrev pub lost_lines : List FrameRead → List ℕ
lost_lines reads = flat_map lost_line reads

-- the lines for lost frames that have the steps in which they were read
abbrev pub arrival_lines : List Arrival → List ℕ
arrival_lines lost = flat_map (λ a. lost_line a.frame) lost

-- the texts of a spacer for which `reads` says what it reads of a line, with at least `gap` silent
-- ticks between frames
abbrev pub spaced_texts : (List Tick → List FrameRead) → ℕ → LineAndNotes
spaced_texts reads gap = record {
  other_line = λ line. spaced_line reads gap most_waiting line;
  note_lines = λ line. arrival_lines (lost_of reads gap most_waiting line);
}
