-- Bytes that wait.
use Rattle.std.specs.Prelude.{ℕ, List}

-- the bytes, in the order in which they came
pub record KeptWaiting : Type 0 where
  pub items : List ℕ
