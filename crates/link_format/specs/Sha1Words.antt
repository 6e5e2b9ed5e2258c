-- The words of SHA-1's schedule, each with the constant of its round.
use Rattle.std.specs.Prelude.{ℕ, List}
use Rattle.sha1.specs.Sha1.{round_constant}
use Rattle.link_format.specs.Words.{AreKeyedBy}

-- Holds if the first n of `keyed` are the words, each with the constant of its round added.
abbrev pub AreKeyed : List ℕ → List ℕ → ℕ → Type 0
AreKeyed words keyed n = AreKeyedBy round_constant words keyed n
