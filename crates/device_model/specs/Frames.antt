-- What a device reads from a line.
use Rattle.std.specs.Prelude.{ℕ, List, [], ◌∷◌, Option, Some, None}

-- a frame, and the tick of its first byte
pub record FrameRead : Type 0 where
  pub start : ℕ
  pub frame : List ℕ

-- what a device reads if it lends the bytes `x`: a frame if it says the tick of the first one, and
-- nothing if it doesn't
abbrev pub frames_lent : Option ℕ → List ℕ → List FrameRead
frames_lent None x = []
frames_lent (Some start) x = record { start = start; frame = x } ∷ []
