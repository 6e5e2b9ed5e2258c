-- What a box of a link is set up with.
use Rattle.std.specs.Prelude.{ℕ, List}
use Rattle.link_format.specs.declared.dir.Dir.{Dir}
use Rattle.link_format.specs.Tag.{direction_number}

-- the key of a box, the number of its direction, and the floor of its journal at the start
pub record Setup : Type 0 where
  pub key : List ℕ
  pub direction : ℕ
  pub floor : ℕ

abbrev pub setup_of : List ℕ → Dir → ℕ → Setup
setup_of key dir floor = record { key = key; direction = direction_number dir; floor = floor }
