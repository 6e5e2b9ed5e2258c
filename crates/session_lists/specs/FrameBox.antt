-- A box between two lines: the frames that it numbers, and what its steps return.
use Rattle.std.specs.Prelude.{◌≡◌, ℕ, List, [], ◌∷◌, ◌++◌, length, Option, Some, None, map}
use Rattle.yasir_ticks.specs.declared.tick.Tick.{Tick}
use Rattle.link_format.specs.NumberedFrame.{NumberedFrame}
use Rattle.session_lists.specs.FrameList.{KeptFrames}
use Rattle.session_lists.specs.declared.frame_box.Numbered.{Numbered}
use Rattle.session_lists.specs.declared.frame_box.FrameStep.{FrameStep}

-- What a box makes of a line: the other line, and the frames that it has sealed or passed, in
-- order.
pub record Numbering : Type 0 where
  pub other_line : List Tick → List Tick
  pub frames : List Tick → List NumberedFrame

-- the frame of a step, with these bytes, as a list, which is empty if the step has no frame
abbrev pub frame_told : Option Numbered → List ℕ → List NumberedFrame
frame_told None bytes = []
frame_told (Some f) bytes = record { number = f.number; start = f.start; frame = bytes } ∷ []

-- Holds if a box that has taken `line` may return `step` for the next tick `t`: its tick is the
-- next one of the other line, and its frame, with these bytes, is the one that falls into this
-- step. Without a frame, none falls into it.
pub record AnswersFrame (box : Numbering) (line : List Tick) (t : Tick) (step : FrameStep)
    (bytes : List ℕ) : Type 0 where
  pub tick_is : box.other_line (line ++ t ∷ []) ≡ box.other_line line ++ step.tick ∷ []
  pub frame_is : box.frames (line ++ t ∷ []) ≡ box.frames line ++ frame_told step.frame bytes

-- Holds if `answer` is what the other line gets for `run` after `line`, as many ticks as the run
-- has, and no frame falls into the run.
pub record AnswersFrameRun (box : Numbering) (line run answer : List Tick) : Type 0 where
  pub ticks : box.other_line (line ++ run) ≡ box.other_line line ++ answer
  pub long : length answer ≡ length run
  pub frames : box.frames (line ++ run) ≡ box.frames line

-- a frame as a list in memory keeps it
abbrev pub kept_numbered : NumberedFrame → KeptFrames Numbered
kept_numbered f = record {
  head = record { number = f.number; start = f.start };
  frame = f.frame;
}

-- these frames, each as a list in memory keeps it
abbrev pub kept_frames : List NumberedFrame → List (KeptFrames Numbered)
kept_frames frames = map kept_numbered frames
