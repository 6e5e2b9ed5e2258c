-- The bytes of a trailer that are still to be sent.
use Rattle.std.specs.Prelude.{ℕ, List, [], ◌∷◌, drop}
use Rattle.yasir_ticks.specs.declared.tick.Tick.{Tick}
use Rattle.yasir_ticks.specs.declared.tick.Tick.TheVariants.{Silent, Byte}
use Rattle.link_format.specs.declared.trailer.Trailer.{Trailer}

-- the bytes that aren't sent yet
abbrev pub bytes_unsent : {B : ℕ} → Trailer B → List ℕ
bytes_unsent trailer = drop trailer.sent trailer.bytes.items

-- the tick of the first of these bytes, or silence if there are none
abbrev pub first_of : List ℕ → Tick
first_of [] = Silent
first_of (b ∷ unsent) = Byte b
