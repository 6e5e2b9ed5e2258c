-- A queue of frames, whose bytes are stored one frame after the other.
use Rattle.std.specs.Prelude.{◌≡◌, ℕ, ◌+◌, ◌*◌, ◌≤◌, List, [], ◌∷◌, length, take, drop}

-- the frames that wait, the oldest first, and how many may wait
pub record FramesWaiting : Type 0 where
  pub frames : List (List ℕ)
  pub capacity : ℕ

-- these bytes, cut into pieces of these lengths
abbrev pub cut_by : List ℕ → List ℕ → List (List ℕ)
cut_by [] bytes = []
cut_by (n ∷ lengths) bytes = take n bytes ∷ cut_by lengths (drop n bytes)

-- how many bytes these frames have
abbrev pub bytes_of : List (List ℕ) → ℕ
bytes_of [] = 0
bytes_of (frame ∷ frames) = length frame + bytes_of frames

-- Holds if pieces of these lengths make up these bytes, and none is longer than the longest frame.
abbrev pub AreCut : List ℕ → List ℕ → Type 0
AreCut [] bytes = bytes ≡ []
AreCut (n ∷ lengths) bytes = (n ≤ 292) × (n ≤ length bytes) × AreCut lengths (drop n bytes)

-- Holds if frames of these lengths make up these bytes, and the room for bytes is that of
-- `capacity` frames of the greatest length.
pub record AreFrames (capacity room : ℕ) (lengths bytes : List ℕ) : Type 0 where
  pub fits : room ≡ capacity * 292
  pub are : AreCut lengths bytes
