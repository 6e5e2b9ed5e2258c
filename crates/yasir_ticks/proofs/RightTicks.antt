-- Lists of ticks whose bytes are bytes.
use Rattle.std.proofs.Common.{ℕ, zero, suc, ◌<◌, List, [], ◌∷◌, get_or, map, take}
use Rattle.yasir_ticks.specs.{Ticks.AreTicks, Ticks.silent, declared.tick.Tick.TheVariants.Byte}

pub are_bytes : (n : ℕ) (bytes : List ℕ) → ((i : ℕ) → get_or bytes i 0 < 256)
    → AreTicks (map Byte (take n bytes))
are_bytes zero bytes fits = tt
are_bytes (suc n) [] fits = tt
are_bytes (suc n) (b ∷ bytes) fits = (fits 0, are_bytes n bytes (λ i. fits (suc i)))

pub are_silent : (n : ℕ) → AreTicks (silent n)
are_silent zero = tt
are_silent (suc n) = (tt, are_silent n)
