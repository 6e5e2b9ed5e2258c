-- The words of SHA-256's schedule, each with the constant of its round.
use Rattle.std.specs.Prelude.{ℕ, List, slice_index}
use Rattle.sha2.specs.Sha256.{round_constants}
use Rattle.link_format.specs.Words.{AreKeyedBy}

-- the constant of round t
abbrev pub round_constant : ℕ → ℕ
round_constant t = slice_index round_constants t

-- Holds if the first n of `keyed` are the words, each with the constant of its round added.
abbrev pub AreKeyed : List ℕ → List ℕ → ℕ → Type 0
AreKeyed words keyed n = AreKeyedBy round_constant words keyed n
