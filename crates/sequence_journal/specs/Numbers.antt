-- The full number: the one that a word on the link represents.
use Rattle.std.specs.Prelude.{◌≡◌, ℕ, ◌+◌, ◌-◌, ◌%◌, ◌<◌, ◌≤◌, Option, Some, None, nat_le}
use Rattle.std.specs.Prelude.{if◌then◌else◌}

-- Holds if n is the least number above the floor that equals the word modulo m.
pub record IsLeastWith (m floor word n : ℕ) : Type 0 where
  pub above : floor < n
  pub has_word : n % m ≡ word
  pub least : (other : ℕ) → floor < other → other % m ≡ word → n ≤ other

-- the least number above the floor that equals the word modulo m, computed
abbrev pub least_with : ℕ → ℕ → ℕ → ℕ
least_with m floor word = floor + 1 + (word + m - (floor + 1) % m) % m

-- the least number above the floor that equals the word modulo m, or `None` if it is above the
-- limit
abbrev pub full_of : ℕ → ℕ → ℕ → ℕ → Option ℕ
full_of limit m floor word =
    if nat_le (least_with m floor word) limit then Some (least_with m floor word) else None
