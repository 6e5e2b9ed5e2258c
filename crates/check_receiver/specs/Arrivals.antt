-- What has come of a trailer.
use Rattle.std.specs.Prelude.{ℕ, List}
use Rattle.check_receiver.specs.declared.arriving.Arriving.{Arriving}

-- the bytes of the trailer that have come
abbrev pub bytes_come : {B : ℕ} → Arriving B → List ℕ
bytes_come value = value.bytes.items
