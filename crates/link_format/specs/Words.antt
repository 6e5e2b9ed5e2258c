-- The words of a schedule as a block function holds them: in fours, and with the constants of their
-- rounds added.
use Rattle.std.specs.Prelude.{◌≡◌, ℕ, ◌+◌, ◌*◌, ◌<◌, List, [], ◌∷◌, slice_index}
use Rattle.sha2.specs.Sha256.{add32, word_at}

-- Holds if each value of a block is below 256.
abbrev pub AreBytesOfWord : List ℕ → Type 0
AreBytesOfWord block = (i : ℕ) → slice_index block i < 256

-- four words of a list, from word t on
abbrev pub four_at : List ℕ → ℕ → List ℕ
four_at words t = slice_index words t ∷ slice_index words (t + 1) ∷ slice_index words (t + 2)
    ∷ slice_index words (t + 3) ∷ []

-- four words of a block, from word t on
abbrev pub four_loaded : List ℕ → ℕ → List ℕ
four_loaded block t = word_at block (4 * t) ∷ word_at block (4 * (t + 1))
    ∷ word_at block (4 * (t + 2)) ∷ word_at block (4 * (t + 3)) ∷ []

-- Holds if `four` is the four words of the list from word t on.
pub record IsFour (words : List ℕ) (t : ℕ) (four : List ℕ) : Type 0 where
  pub is : four ≡ four_at words t

-- Holds if the first n of `keyed` are the words, each with the constant of its round added.
pub record AreKeyedBy (constant : ℕ → ℕ) (words keyed : List ℕ) (n : ℕ) : Type 0 where
  pub is : (t : ℕ) → t < n → slice_index keyed t ≡ add32 (slice_index words t) (constant t)
