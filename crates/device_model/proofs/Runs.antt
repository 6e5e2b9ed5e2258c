-- Runs of ticks in which a device reads no frame.
use Rattle.std.proofs.Common.{◌≡◌, ℕ, ◌+◌, ◌<◌, List, [], ◌++◌, length}
use Rattle.yasir_ticks.specs.declared.tick.Tick.{Tick}
use Rattle.device_model.specs.Frames.{FrameRead}

module _ {D : Type 0} (stands : D → List Tick → Type 0) (reads : List Tick → List FrameRead)
    (taken : D → ℕ) where
  -- Holds if a device has taken the ticks `ticks`, and `frames` are the frames that it reads in
  -- them.
  pub record Takes (before after : D) (ticks : List Tick) (frames : List FrameRead) : Type 0 where
    pub count : taken after ≡ taken before + length ticks
    pub hears : (line : List Tick) → stands before line → stands after (line ++ ticks)
    pub answers : (line : List Tick) → stands before line
        → reads (line ++ ticks) ≡ reads line ++ frames

  -- Holds if, for each `n` below `m`, no frame is read in the ticks `ticks n`, the first `n`.
  abbrev pub IsUnread : D → (ℕ → List Tick) → ℕ → Type 0
  IsUnread before ticks m =
      (n : ℕ) → n < m → (line : List Tick) → stands before line
      → reads (line ++ ticks n) ≡ reads line

  -- Holds if a device has taken the first `m` ticks, and no frame is read in them.
  pub record IsQuiet (before after : D) (ticks : ℕ → List Tick) (m : ℕ) : Type 0 where
    pub so_far : Takes before after (ticks m) []
    pub unread : IsUnread before ticks m
