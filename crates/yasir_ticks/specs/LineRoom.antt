-- What the room of a line holds.
use Rattle.std.specs.Prelude.{ℕ, List}

-- the bytes, in order
pub record Kept : Type 0 where
  pub items : List ℕ
