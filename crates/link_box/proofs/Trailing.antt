-- The bytes of a trailer among the ticks after the live ones.
use Rattle.link_box.{proofs.Shaping.shape, specs.Shapes.kept}
use Rattle.std.proofs.Common.{◌≡◌, ◌∙◌, ℕ, zero, suc, ◌+◌, ◌-◌, ◌≤◌, true, List, [], ◌∷◌, ◌++◌}
use Rattle.std.proofs.Common.{length, drop, replicate, refl, ap, arith}
use Rattle.std.proofs.Math.Seq.{drop-nil}
use Rattle.yasir_ticks.proofs.SilenceLaws.{bytes_in-append, bytes_in-silent}
use Rattle.yasir_ticks.specs.Ticks.{silent, bytes_in}
use Rattle.yasir_ticks.specs.declared.tick.Tick.{Tick, TheVariants.Silent, TheVariants.Byte}

bytes-all : (n : ℕ) (x : List Tick) → length x ≤ kept (replicate n true) x
    → length (bytes_in x) ≡ length x
unfolding kept
bytes-all zero [] keeps = refl
bytes-all zero (t ∷ x) keeps = absurd (omega arith)
bytes-all (suc n) [] keeps = refl
bytes-all (suc n) (Silent ∷ x) keeps = absurd (omega arith)
bytes-all (suc n) (Byte b ∷ x) keeps = ap suc (bytes-all n x (omega arith))

-- If all ticks keep the shape of j silent ticks and n bytes, those after the silent ones are bytes.
pub trailer-bytes : (j n : ℕ) (x : List Tick) → length x ≤ kept (shape j n) x
    → length (bytes_in (drop j x)) ≡ length x - j
unfolding kept
trailer-bytes zero n x keeps = let all = bytes-all n x keeps in omega arith
trailer-bytes (suc j) n [] keeps = omega arith
trailer-bytes (suc j) n (Silent ∷ x) keeps =
    let rest = trailer-bytes j n x (omega arith) in omega arith
trailer-bytes (suc j) n (Byte b ∷ x) keeps = absurd (omega arith)

-- one more byte, after silent ticks
pub bytes-more : (j : ℕ) (x : List Tick) (gap b : ℕ) → j ≤ length x + gap
    → bytes_in (drop j (x ++ (silent gap ++ Byte b ∷ []))) ≡ bytes_in (drop j x) ++ b ∷ []
bytes-more zero x gap b behind =
    bytes_in-append x (silent gap ++ Byte b ∷ [])
    ∙ ap (λ y. bytes_in x ++ y) (bytes_in-silent gap (Byte b ∷ []))
bytes-more (suc j) [] zero b behind = absurd (omega arith)
bytes-more (suc j) [] (suc gap) b behind =
    let few : j ≤ length {A = Tick} [] + gap = omega arith in
    bytes-more j [] gap b few ∙ ap (λ y. bytes_in y ++ b ∷ []) (drop-nil j)
bytes-more (suc j) (t ∷ x) gap b behind = bytes-more j x gap b (omega arith)
