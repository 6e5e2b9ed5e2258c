-- Silence among ticks: it has no bytes, and ticks read past their end are silent.
use Rattle.std.proofs.Common.{◌≡◌, ℕ, zero, suc, ◌+◌, ◌<◌, List, [], ◌∷◌, ◌++◌, length, refl, ap}
use Rattle.std.proofs.Common.{arith, get_or}
use Rattle.yasir_ticks.specs.Ticks.{bytes_in, silent}
use Rattle.yasir_ticks.specs.declared.tick.Tick.{Tick, TheVariants.Silent, TheVariants.Byte}

pub bytes_in-append : (x y : List Tick) → bytes_in (x ++ y) ≡ bytes_in x ++ bytes_in y
bytes_in-append [] y = refl
bytes_in-append (Silent ∷ x) y = bytes_in-append x y
bytes_in-append (Byte b ∷ x) y = ap (λ z. b ∷ z) (bytes_in-append x y)

pub bytes_in-silent : (j : ℕ) (y : List Tick) → bytes_in (silent j ++ y) ≡ bytes_in y
bytes_in-silent zero y = refl
bytes_in-silent (suc j) y = bytes_in-silent j y

silent_at : (n k : ℕ) (y : List Tick) → k < n → get_or (silent n ++ y) k Silent ≡ Silent
silent_at zero k y few = absurd (omega arith)
silent_at (suc n) zero y few = refl
silent_at (suc n) (suc k) y few = silent_at n k y (omega arith)

-- Some ticks followed by silence have, at each place, the same tick as without it: past their end
-- they count as silent.
pub get_or-silence : (x : List Tick) (n k : ℕ) (y : List Tick) → k < length x + n
    → get_or (x ++ (silent n ++ y)) k Silent ≡ get_or x k Silent
get_or-silence [] n k y few = let h : k < n = omega arith in silent_at n k y h
get_or-silence (t ∷ x) n zero y few = refl
get_or-silence (t ∷ x) n (suc k) y few = get_or-silence x n k y (omega arith)
