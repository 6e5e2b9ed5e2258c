-- What a room of bytes holds.
use Rattle.std.specs.Prelude.{ℕ, List}

-- the bytes, in order
pub record Held : Type 0 where
  pub items : List ℕ
