-- How the frames of a protocol are drawn.
use Rattle.std.specs.Prelude.{ℕ, List}

-- What the state of a generator, before the first draw, says about the frame that is drawn.
pub record Drawing : Type 0 where
  -- the frame that is drawn from a state on
  pub frame : ℕ → List ℕ
  -- how many draws it takes
  pub draws : ℕ → ℕ
