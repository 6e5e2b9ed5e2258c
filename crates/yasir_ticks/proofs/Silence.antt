-- Marks of silence.
use Rattle.std.proofs.Common.{◌≡◌, ℕ, ◌+◌, ◌-◌, ◌<◌, List, arith, subst, ⊎_elim}
use Rattle.std.{proofs.lemmas.Bool.cases_lt, specs.Prelude.slice_index_or}

-- If the first `at` marks are those of silence, and the next `n` too, then the first `at + n` are.
pub silence-more : (marks : List ℕ) (at n : ℕ)
    → ((k : ℕ) → k < at → slice_index_or marks k 0 ≡ 0)
    → ((k : ℕ) → k < n → slice_index_or marks (at + k) 0 ≡ 0)
    → (k : ℕ) → k < at + n → slice_index_or marks k 0 ≡ 0
silence-more marks at n before more k less = ⊎_elim
    (λ low. before k low)
    (λ high.
    let same : at + (k - at) ≡ k = omega (arith, high) in
    subst (λ i. slice_index_or marks i 0 ≡ 0) same (more (k - at) (omega (arith, less, high))))
    (cases_lt k at)
