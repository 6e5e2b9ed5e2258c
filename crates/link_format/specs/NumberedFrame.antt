-- Frames with their numbers, as a transmitter seals them and a receiver passes them.
use Rattle.std.specs.Prelude.{◌≡◌, ℕ, ◌+◌, List, [], ◌∷◌, length, map}
use Rattle.std.specs.List.{range_with_len}

-- a frame, its number, and the tick of its first byte
pub record NumberedFrame : Type 0 where
  pub number : ℕ
  pub start : ℕ
  pub frame : List ℕ

abbrev pub numbers_of : List NumberedFrame → List ℕ
numbers_of frames = map (λ f. f.number) frames

-- the number of the last of these frames, or the floor if there are none
abbrev pub last_number : ℕ → List NumberedFrame → ℕ
last_number floor [] = floor
last_number floor (f ∷ frames) = last_number f.number frames

-- Holds if the frames have the numbers right after this floor, in order and without a gap.
pub record AreNumberedFrom (floor : ℕ) (frames : List NumberedFrame) : Type 0 where
  pub numbers : numbers_of frames ≡ range_with_len (floor + 1) (length frames)
