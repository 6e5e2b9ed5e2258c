-- A spacer that has heard more of its line than it has answered.
use Rattle.std.specs.Prelude.{◌≡◌, ℕ, ◌+◌, ◌-◌, ◌<◌, List, [], ◌∷◌, ◌++◌, length, take}
use Rattle.yasir_ticks.specs.declared.tick.Tick.{Tick}
use Rattle.frame_ending.specs.Laid.{tick_at}
use Rattle.device_model.specs.Frames.{FrameRead}
use Rattle.device_model.specs.declared.device.Device.{Ghosts as Device}
use Rattle.line_spacer.specs.Spacing.{Spaced, spaced, accepted_of, lost_of}
use Rattle.line_spacer.specs.Stands.{SentBy, spaced_frame_at, frames_waiting, unsent_of, taken_in}
use Rattle.line_spacer.specs.declared.spacer.Spacer.{Spacer}

-- Holds if `made` is what was made of a line and the ticks after it, without `frames`, which are
-- read in the last of these ticks. No frame is lost in the ticks before the last one, and what
-- leaves up to any of them doesn't depend on what is read after it.
pub record ArePending (reads : List Tick → List FrameRead) (gap cap : ℕ) (line ticks : List Tick)
    (made : Spaced) (frames : List FrameRead) : Type 0 where
  pub none_lost : (n : ℕ) → n < length ticks
      → lost_of reads gap cap (line ++ take n ticks) ≡ lost_of reads gap cap line
  pub stays : (n i : ℕ) → n < length ticks → i < length line + n
      → tick_at (accepted_of reads gap cap (line ++ take n ticks)) i ≡ tick_at made.accepted i
  pub lost : made.lost ≡ lost_of reads gap cap line
  pub all : spaced reads gap cap (line ++ ticks)
      ≡ taken_in gap cap (length line + (length ticks - 1)) made frames

-- how many ticks these frames take, with `gap` silent ones after each
abbrev pub ticks_for : ℕ → List (List ℕ) → ℕ
ticks_for gap [] = 0
ticks_for gap (frame ∷ queue) = length frame + gap + ticks_for gap queue

-- the frames that are read in the last of these ticks, if there is any tick
abbrev pub still_read : List Tick → List FrameRead → List FrameRead
still_read [] frames = []
still_read (t ∷ ticks) frames = frames

-- for how many ticks the other line is busy with the frame that has begun, and with those that wait
abbrev pub busy_ticks : {V : Type 0} {GAP : ℕ} → Spacer V GAP → ℕ
busy_ticks {V} {GAP} value = length (unsent_of value.ready value.sent (spaced_frame_at value)) + value.pause
    + ticks_for GAP (frames_waiting value)

module _ {V : Type 0} (device : Device V) where
  -- Holds if the spacer, with room for `cap` frames to wait, has answered this line, and has also
  -- heard the `owed` ticks after it, whose answers it owes. The frames that were read in them are
  -- taken in, except for `frames`, which were read in the last one.
  pub record Owes {GAP : ℕ} (cap : ℕ) (value : Spacer V GAP) (line owed : List Tick)
      (frames : List FrameRead) : Type 0 where
    pub heard : device.stands value.device (line ++ owed)
    pub room : value.queue.capacity ≡ cap
    pub made : Spaced
    pub sent : SentBy value (length line) made.accepted
    pub pending : ArePending device.reads GAP cap line owed made frames
