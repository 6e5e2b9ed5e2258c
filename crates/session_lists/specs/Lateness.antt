-- When the frames that are expected must be read.
use Rattle.std.specs.Prelude.{◌≡◌, ℕ, ◌+◌, ◌≤◌, List, [], ◌∷◌}
use Rattle.device_model.specs.Frames.{FrameRead}
use Rattle.link_format.specs.NumberedFrame.{NumberedFrame}

-- a frame that passed, as it is read `late` ticks later
abbrev pub read_later : ℕ → NumberedFrame → FrameRead
read_later late f = record { start = late + f.start; frame = f.frame }

-- Holds if the frames that were read are those that should be, in their order, and each starts from
-- `least` to `most` ticks later than it should.
abbrev pub AreReadWithin : ℕ → ℕ → List FrameRead → List FrameRead → Type 0
AreReadWithin least most [] [] = Unit {0}
AreReadWithin least most [] (g ∷ reads) = ⊥
AreReadWithin least most (f ∷ expected) [] = ⊥
AreReadWithin least most (f ∷ expected) (g ∷ reads) =
    (g.frame ≡ f.frame) × (f.start + least ≤ g.start) × (g.start ≤ f.start + most)
    × AreReadWithin least most expected reads
