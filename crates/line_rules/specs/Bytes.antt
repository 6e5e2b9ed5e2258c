-- Lists of bytes.
use Rattle.std.specs.Prelude.{ℕ, ◌/◌, ◌%◌, ◌<◌, List, [], ◌∷◌, All}

-- Holds if each number is a byte.
abbrev pub AreBytes : List ℕ → Type 0
AreBytes x = All (λ b. b < 256) x

-- the two bytes of a number below 65536, the low one first
abbrev pub low_first : ℕ → List ℕ
low_first n = n % 256 ∷ n / 256 ∷ []
