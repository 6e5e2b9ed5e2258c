-- What a gate does when it has just begun, and what a device then reads.
use Rattle.std.specs.Prelude.{◌≡◌, ◌≤◌, ◌+◌, ℕ, List, ◌++◌, length, take, drop}
use Rattle.yasir_ticks.specs.Ticks.{silent}
use Rattle.yasir_ticks.specs.declared.tick.Tick.{Tick}
use Rattle.device_model.specs.Frames.{FrameRead}
use Rattle.receiver_laws.specs.Headline.{bytes_read}

-- Holds if a box says nothing at first, and others are silent for the last `window` of these ticks.
pub record WaitsFirst (window : ℕ) (own heard : List Tick) : Type 0 where
  pub before : ℕ
  pub rest : List Tick
  pub own_is : own ≡ silent (before + window) ++ rest
  pub heard_is : take window (drop before heard) ≡ silent window

-- Holds if a device that has heard these ticks, and then nothing for `down` ticks, reads the others
-- as one does that has heard nothing before. Before these it reads what it had read, and at most
-- `most` more frames, of whatever bytes.
pub record ReadsAnew (reads : List Tick → List FrameRead) (most down : ℕ) (before own : List Tick) :
    Type 0 where
  pub more : List (List ℕ)
  pub few : length more ≤ most
  pub anew : bytes_read (reads (before ++ (silent down ++ own)))
      ≡ bytes_read (reads before) ++ (more ++ bytes_read (reads own))
