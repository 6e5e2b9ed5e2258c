-- A box between two lines as a walk over the bursts of one of them.
use Rattle.std.specs.Prelude.{ℕ, List, Option}
use Rattle.std.specs.List.{filter_map}
use Rattle.yasir_ticks.specs.declared.tick.Tick.{Tick}
use Rattle.frame_ending.specs.Walk.{Walker, Noted, notes_of, line_of}
use Rattle.link_format.specs.NumberedFrame.{NumberedFrame, last_number}
use Rattle.link_format.specs.Setup.{Setup}

-- For each setup of a box, its walk and the state in which it begins. For each note of the walk,
-- what the box returns for it, and the numbered frame that the box seals or passes, if there is
-- one.
pub record Walking (A : Type 0) : Type 1 where
  pub State : Type 0
  pub Full : Type 0
  pub walker : Setup → Walker State Full
  pub begun : Setup → State
  pub brief : Full → A
  pub frame_in : Full → Option NumberedFrame

module _ {A : Type 0} (walking : Walking A) where
  -- the notes of a line
  abbrev pub full_notes : Setup → List Tick → List (Noted walking.Full)
  full_notes setup line = notes_of (walking.walker setup) (walking.begun setup) line

  -- the other line, tick by tick with the line
  abbrev pub other_line : Setup → List Tick → List Tick
  other_line setup line = line_of (walking.walker setup) (walking.begun setup) line

  -- the frames of a line that a box seals or passes
  abbrev pub frames_of : Setup → List Tick → List NumberedFrame
  frames_of setup line = filter_map (λ n. walking.frame_in n.note) (full_notes setup line)

  -- the last number that a box uses for the frames of a line, or its floor if there are none
  abbrev pub number_used_after : Setup → List Tick → ℕ
  number_used_after setup line = last_number setup.floor (frames_of setup line)
