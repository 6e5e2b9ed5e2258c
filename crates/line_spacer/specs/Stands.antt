-- What a spacer represents, and what its steps return.
use Rattle.std.specs.Prelude.{◌≡◌, ℕ, ◌+◌, ◌-◌, ◌<◌, ◌≤◌, List, [], ◌∷◌, ◌++◌, length, map, drop}
use Rattle.std.specs.Prelude.{slice_index_or, fold, take, Bool, true, false}
use Rattle.yasir_ticks.specs.Bursts.{Burst, end_of}
use Rattle.yasir_ticks.specs.declared.tick.Tick.{Tick}
use Rattle.yasir_ticks.specs.declared.tick.Tick.TheVariants.{Silent, Byte}
use Rattle.frame_ending.specs.Laid.{tick_at}
use Rattle.device_model.specs.Frames.{FrameRead}
use Rattle.device_model.specs.declared.device.Device.{Ghosts as Device}
use Rattle.line_spacer.specs.Arrivals.{arriving}
use Rattle.line_spacer.specs.Spacing.{Spaced, free_from, take_in, accepted_of, lost_of}
use Rattle.line_spacer.specs.Spacing.{spaced_line}
use Rattle.line_spacer.specs.declared.spacer.Spacer.{Spacer}

-- tick i of the other line, if these bytes are sent from tick m on
abbrev pub tick_of : ℕ → List ℕ → ℕ → Tick
tick_of m unsent i = slice_index_or (map (λ b. Byte b) unsent) (i - m) Silent

-- Holds if each of these bursts begins before tick m and ends by tick n.
abbrev pub HaveBegun : ℕ → ℕ → List Burst → Type 0
HaveBegun m n [] = Unit {0}
HaveBegun m n (d ∷ ds) = (d.start < m) × (end_of d ≤ n) × HaveBegun m n ds

-- Holds if the first of these bursts begins in tick n, and each later one `gap` ticks after the end
-- of the one before it.
abbrev pub AreDue : ℕ → ℕ → List Burst → Type 0
AreDue gap n [] = Unit {0}
AreDue gap n (d ∷ ds) = (d.start ≡ n) × AreDue gap (end_of d + gap) ds

-- Holds if, before tick m, some of these accepted frames have begun and the others, `queued`, wait.
-- Of the last one that has begun the bytes `unsent` are still to be sent, and after them `pause`
-- silent ticks are still to pass.
pub record HasSent (gap m : ℕ) (accepted : List Burst) (unsent : List ℕ) (pause : ℕ)
    (queued : List (List ℕ)) : Type 0 where
  pub wide : 0 < gap
  pub begun : List Burst
  pub waiting : List Burst
  pub is : accepted ≡ begun ++ waiting
  pub have_begun : HaveBegun m (m + length unsent) begun
  pub sends : (i : ℕ) → m ≤ i → tick_at begun i ≡ tick_of m unsent i
  pub free : free_from gap 0 begun - m ≡ length unsent + pause
  pub due : AreDue gap (m + length unsent + pause) waiting
  pub queue : map (λ d. d.body) waiting ≡ map (λ x. map (λ b. Byte b) x) queued

-- how many silent ticks are still to pass after the last byte of a frame that has begun. For a
-- frame without bytes the tick in which it begins is the first of them.
abbrev pub rest_behind : ℕ → List ℕ → ℕ
rest_behind gap [] = gap - 1
rest_behind gap (b ∷ frame) = gap

-- Holds if `t` leaves in tick m, and before the next tick the spacer has sent what `unsent`,
-- `pause` and `queued` say (`HasSent`).
pub record Sends (gap m : ℕ) (accepted : List Burst) (unsent : List ℕ) (pause : ℕ)
    (queued : List (List ℕ)) (t : Tick) : Type 0 where
  pub leaves : tick_at accepted m ≡ t
  pub sent : HasSent gap (m + 1) accepted unsent pause queued

-- the bytes of a frame that are still to be sent after `sent` of them, or none if it is still to
-- begin
abbrev pub unsent_of : Bool → ℕ → List ℕ → List ℕ
unsent_of true sent frame = []
unsent_of false sent frame = drop sent frame

-- the frames that wait: this one, if it is still to begin, and those of the queue
abbrev pub with_next : Bool → List ℕ → List (List ℕ) → List (List ℕ)
with_next true frame queue = frame ∷ queue
with_next false frame queue = queue

-- the frame that was begun last, or is the next to begin
abbrev pub spaced_frame_at : {V : Type 0} {GAP : ℕ} → Spacer V GAP → List ℕ
spaced_frame_at value = take value.size value.room

-- the frames that wait
abbrev pub frames_waiting : {V : Type 0} {GAP : ℕ} → Spacer V GAP → List (List ℕ)
frames_waiting value = with_next value.ready (spaced_frame_at value) value.queue.frames

-- the bytes that left in the last ticks that were taken
abbrev pub bytes_sent : {V : Type 0} {GAP : ℕ} → Spacer V GAP → List ℕ
bytes_sent value = take (value.sent - value.before) (drop value.before value.room)

-- Holds if the spacer has sent of the accepted frames, before tick m, what its fields say
-- (`HasSent`).
abbrev pub SentBy : {V : Type 0} {GAP : ℕ} → Spacer V GAP → ℕ → List Burst → Type 0
SentBy {V} {GAP} value m accepted =
    HasSent GAP m accepted (unsent_of value.ready value.sent (spaced_frame_at value)) value.pause
    (frames_waiting value)

module _ {V : Type 0} (device : Device V) where
  -- Holds if the spacer, with room for `cap` frames to wait, has taken this line.
  pub record SpacerStandsFor {GAP : ℕ} (cap : ℕ) (value : Spacer V GAP) (line : List Tick) : Type 0 where
    pub heard : device.stands value.device line
    pub room : value.queue.capacity ≡ cap
    pub sent : SentBy value (length line) (accepted_of device.reads GAP cap line)

  -- how many ticks it has taken
  abbrev pub ticks_spaced : {GAP : ℕ} → Spacer V GAP → ℕ
  ticks_spaced value = device.taken value.device

-- the bytes that the spacer's device lends, where `lent` says what such a device lends
abbrev pub spaced_bytes_lent : {V : Type 0} {GAP : ℕ} → (V → List ℕ) → Spacer V GAP → List ℕ
spaced_bytes_lent lent value = lent value.device

-- Holds if, when `ticks` follow a line, `answer` leaves in the same steps, and the frames `lost`
-- are lost in this step.
pub record AnswersSpaced (reads : List Tick → List FrameRead) (gap cap : ℕ)
    (line ticks answer : List Tick) (step : ℕ) (lost : List FrameRead) : Type 0 where
  pub ticks_leave : spaced_line reads gap cap (line ++ ticks)
      ≡ spaced_line reads gap cap line ++ answer
  pub are_lost : lost_of reads gap cap (line ++ ticks)
      ≡ lost_of reads gap cap line ++ map (arriving step) lost

-- what is accepted and lost after these frames are read in this step
abbrev pub taken_in : ℕ → ℕ → ℕ → Spaced → List FrameRead → Spaced
taken_in gap cap step s frames = fold (take_in gap cap) s (map (arriving step) frames)

-- Holds if, of the frames `read` in this step, the frames `lost` are lost, and what leaves in it
-- and before it stays the same.
pub record TakesIn (gap cap step : ℕ) (s : Spaced) (read lost : List FrameRead) : Type 0 where
  pub are_lost : (taken_in gap cap step s read).lost ≡ s.lost ++ map (arriving step) lost
  pub stays : (i : ℕ) → i ≤ step
      → tick_at (taken_in gap cap step s read).accepted i ≡ tick_at s.accepted i
