-- The spaced line: the frames that a device reads of a line, sent again on another line, each one
-- whole and at least a stated number of silent ticks after the one before it. A frame for which
-- there is no room to wait is lost.
use Rattle.std.specs.Prelude.{ℕ, ◌+◌, max, nat_le, List, [], ◌∷◌, ◌++◌, length, map, fold}
use Rattle.std.specs.Prelude.{if◌then◌else◌}
use Rattle.std.specs.List.{filter}
use Rattle.yasir_ticks.specs.Bursts.{Burst, end_of}
use Rattle.yasir_ticks.specs.declared.tick.Tick.{Tick}
use Rattle.yasir_ticks.specs.declared.tick.Tick.TheVariants.{Byte}
use Rattle.frame_ending.specs.Laid.{laid}
use Rattle.device_model.specs.Frames.{FrameRead}
use Rattle.line_spacer.specs.Arrivals.{Arrival, arrivals}

-- The frames that are accepted, each as its burst on the other line, and those that are lost, each
-- with the step in which it is read.
pub record Spaced : Type 0 where
  pub accepted : List Burst
  pub lost : List Arrival

-- what is made of no frame
abbrev pub none_yet : Spaced
none_yet = record { accepted = []; lost = [] }

-- a frame's burst on the other line, if its first byte is sent in this tick
abbrev pub sent_from : ℕ → List ℕ → Burst
sent_from start frame = record { start = start; body = map (λ b. Byte b) frame }

-- how many of these bursts begin in tick m or later
abbrev pub count_from : ℕ → List Burst → ℕ
count_from m ds = length (filter (λ d. nat_le m d.start) ds)

-- the first tick that is `gap` silent ticks after the last of these bursts, or tick n if there is
-- none
abbrev pub free_from : ℕ → ℕ → List Burst → ℕ
free_from gap n [] = n
free_from gap n (d ∷ ds) = free_from gap (end_of d + gap) ds

-- A frame is lost if, after the step in which it is read, `cap` accepted frames or more are still
-- to begin. Otherwise it begins as soon as it may: in the tick after that step or, if that is
-- later, `gap` silent ticks after the frame before it.
unfoldable pub take_in : ℕ → ℕ → Spaced → Arrival → Spaced
take_in gap cap s a =
    if nat_le cap (count_from (a.step + 1) s.accepted)
    then record { accepted = s.accepted; lost = s.lost ++ a ∷ [] }
    else record {
      accepted = s.accepted
          ++ sent_from (max (a.step + 1) (free_from gap 0 s.accepted)) a.frame.frame ∷ [];
      lost = s.lost;
    }

-- For a device that reads of a line what `reads` says, at least `gap` silent ticks between frames,
-- and up to `cap` frames that may wait.
module _ (reads : List Tick → List FrameRead) (gap cap : ℕ) where
  -- what happens to the frames of a line
  abbrev pub spaced : List Tick → Spaced
  spaced line = fold (take_in gap cap) none_yet (arrivals reads line)

  -- the accepted frames of a line, each as its burst on the other line
  abbrev pub accepted_of : List Tick → List Burst
  accepted_of line = (spaced line).accepted

  -- the lost frames of a line, each with the step in which it is read
  abbrev pub lost_of : List Tick → List Arrival
  lost_of line = (spaced line).lost

  -- The other line, as long as the line: the accepted frames, and silence in all other ticks.
  abbrev pub spaced_line : List Tick → List Tick
  spaced_line line = laid (length line) (accepted_of line)

  -- how many accepted frames haven't begun by the end of a line
  abbrev pub waiting_of : List Tick → ℕ
  waiting_of line = count_from (length line) (accepted_of line)
