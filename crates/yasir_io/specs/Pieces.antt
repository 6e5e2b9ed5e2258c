-- What is still to come of a source that is read in pieces.
use Rattle.std.specs.Prelude.{ℕ, List, take, drop, Bool, Option}
use Rattle.std.specs.Io.KnownBytes.{prepend_known}
use Rattle.yasir_io.specs.declared.pieces.Pieces.{Pieces}

-- the bytes that were read and haven't been returned yet
abbrev pub kept_bytes : Pieces → List ℕ
kept_bytes pieces = drop pieces.place (take pieces.end pieces.bytes)

-- whether a read has returned 0
abbrev pub has_ended : Pieces → Bool
has_ended pieces = pieces.ended

-- the bytes kept, and then those left in the source, if it tells them
abbrev pub to_come : Pieces → Option (List ℕ) → Option (List ℕ)
to_come pieces left = prepend_known (kept_bytes pieces) left
