-- What a spacer sends in a run of ticks in which the other line stays alike: only bytes of one
-- frame, or only silence.
use Rattle.std.specs.Prelude.{◌≡◌, ℕ, ◌+◌, ◌<◌, ◌≤◌, List, [], ◌++◌, length, max, true, false}
use Rattle.yasir_ticks.specs.Bursts.{Burst}
use Rattle.yasir_ticks.specs.declared.tick.Tick.{Tick}
use Rattle.frame_ending.specs.Laid.{laid}
use Rattle.line_spacer.specs.Stands.{HasSent, unsent_of, spaced_frame_at, frames_waiting}
use Rattle.line_spacer.specs.declared.spacer.Spacer.{Spacer}

-- Holds if `answer` leaves in the ticks from m on, and after them the spacer has sent what
-- `unsent`, `pause` and `queued` say (`HasSent`).
pub record SendsRun (gap m : ℕ) (accepted : List Burst) (unsent : List ℕ) (pause : ℕ)
    (queued : List (List ℕ)) (answer : List Tick) : Type 0 where
  pub leave : laid (m + length answer) accepted ≡ laid m accepted ++ answer
  pub sent : HasSent gap (m + length answer) accepted unsent pause queued

-- Holds if `answer` leaves in the ticks from m on, and after them the spacer has sent what this
-- value of it says.
abbrev pub SendsRunBy : {V : Type 0} {GAP : ℕ} → Spacer V GAP → ℕ → List Burst → List Tick → Type 0
SendsRunBy {V} {GAP} value m accepted answer =
    SendsRun GAP m accepted (unsent_of value.ready value.sent (spaced_frame_at value)) value.pause
    (frames_waiting value) answer

-- Holds if the next frame is ready to begin, or none waits, once nothing is left of a frame and of
-- the silence after it.
abbrev pub IsMade : {V : Type 0} {GAP : ℕ} → Spacer V GAP → Type 0
IsMade value = value.pause ≤ 0 → value.ready ≡ false → value.size ≤ value.sent
    → value.queue.frames ≡ []

-- Holds if in n ticks only bytes of one frame leave, the one that is ready to begin or the one that
-- has begun, or only silence: the silence after a frame, or any amount if no frame waits.
pub record StaysAlike {V : Type 0} {GAP : ℕ} (value : Spacer V GAP) (n : ℕ) : Type 0 where
  pub begins : value.ready ≡ true → value.pause ≤ 0 → n ≤ max value.size 1
  pub waits : value.ready ≡ true → 0 < value.pause → n ≤ value.pause
  pub bytes : value.ready ≡ false → value.sent < value.size → value.sent + n ≤ value.size
  pub quiet : value.ready ≡ false → value.size ≤ value.sent → 0 < value.pause → n ≤ value.pause
  pub idle : value.ready ≡ false → value.size ≤ value.sent → value.pause ≤ 0
      → value.queue.frames ≡ []
