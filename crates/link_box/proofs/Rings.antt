-- The ring holds what is still to leave, and silence after it.
use Rattle.std.proofs.Common.{◌≡◌, ◌∙◌, ℕ, zero, suc, ◌-◌, ◌<◌, ◌≤◌, List, [], ◌∷◌, ◌++◌, length}
use Rattle.std.proofs.Common.{drop, get_or, refl, sym, ap, arith, append_assoc}
use Rattle.yasir_ticks.specs.Ticks.{silent}
use Rattle.yasir_ticks.specs.declared.tick.Tick.{Tick, TheVariants.Silent, TheVariants.Byte}

silent-more : (n : ℕ) → silent n ++ Silent ∷ [] ≡ Silent ∷ silent n
silent-more zero = refl
silent-more (suc n) = ap (λ l. Silent ∷ l) (silent-more n)

silent-first : (n : ℕ) → get_or (silent n) 0 Silent ≡ Silent
silent-first zero = refl
silent-first (suc n) = refl

-- the tick that leaves the ring is the first one to leave
pub ring-first : (live : List Tick) (n : ℕ)
    → get_or (live ++ silent n) 0 Silent ≡ get_or live 0 Silent
ring-first [] n = silent-first n
ring-first (t ∷ live) n = refl

ring-none : (n : ℕ) → 1 ≤ n → drop 1 (silent n) ++ Silent ∷ [] ≡ silent n
ring-none zero some = absurd (omega arith)
ring-none (suc n) some = silent-more n

-- silence enters the ring
pub ring-silent : (live : List Tick) (n : ℕ) → 1 ≤ n → length live ≤ n
    → drop 1 (live ++ silent (n - length live)) ++ Silent ∷ []
    ≡ drop 1 live ++ silent (n - length (drop 1 live))
ring-silent [] n some few =
    let all : n - length {A = Tick} [] ≡ n = omega arith in
    ap (λ k. drop 1 (silent k) ++ Silent ∷ []) all
    ∙ (ring-none n some ∙ ap silent (sym all))
ring-silent (t ∷ live) n some few =
    let one : n - length live ≡ suc (n - length (t ∷ live)) = omega arith in
    append_assoc live (silent (n - length (t ∷ live))) (Silent ∷ [])
    ∙ (ap (λ x. live ++ x) (silent-more (n - length (t ∷ live)))
    ∙ ap (λ k. live ++ silent k) (sym one))

-- a byte enters the ring after the silence
pub ring-byte : (live : List Tick) (n b : ℕ) → 0 < length live
    → drop 1 (live ++ silent n) ++ Byte b ∷ [] ≡ drop 1 live ++ (silent n ++ Byte b ∷ [])
ring-byte [] n b some = absurd (omega arith)
ring-byte (t ∷ live) n b some = append_assoc live (silent n) (Byte b ∷ [])

-- a byte enters a ring that holds only silence
pub ring-begun : (n b : ℕ) → 1 ≤ n
    → drop 1 (silent n) ++ Byte b ∷ [] ≡ drop 1 (silent n ++ Byte b ∷ [])
ring-begun zero b some = absurd (omega arith)
ring-begun (suc n) b some = refl
