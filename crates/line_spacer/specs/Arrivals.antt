-- The frames that a device reads of a line, each with the step in which it is read.
use Rattle.std.specs.Prelude.{ℕ, List, [], ◌∷◌, ◌++◌, length, map, drop}
use Rattle.yasir_ticks.specs.declared.tick.Tick.{Tick}
use Rattle.device_model.specs.Frames.{FrameRead}

-- A frame, and the step in which it is read.
pub record Arrival : Type 0 where
  pub step : ℕ
  pub frame : FrameRead

-- the arrival of a frame that is read in this step
abbrev pub arriving : ℕ → FrameRead → Arrival
arriving step frame = record { step = step; frame = frame }

-- For a device that reads of a line what `reads` says.
module _ (reads : List Tick → List FrameRead) where
  -- the frames that are read of a line with one more tick, but not of the line without it
  abbrev pub gained : List Tick → Tick → List FrameRead
  gained line t = drop (length (reads line)) (reads (line ++ t ∷ []))

  -- the frames that are read in the steps of these ticks, which follow this line
  unfoldable pub arrivals_behind : List Tick → List Tick → List Arrival
  arrivals_behind line [] = []
  arrivals_behind line (t ∷ more) =
      map (arriving (length line)) (gained line t) ++ arrivals_behind (line ++ t ∷ []) more

  -- the frames that are read of a line
  abbrev pub arrivals : List Tick → List Arrival
  arrivals line = arrivals_behind [] line
