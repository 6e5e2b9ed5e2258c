-- What is known of an input: what was met of it, followed by what is to come.
use Rattle.std.proofs.Common.{◌≡◌, ◌+◌, ◌-◌, ◌<◌, ◌≤◌, ℕ, List, [], ◌∷◌, ◌++◌, length, take, drop}
use Rattle.std.proofs.Common.{get_or, Option, Some, None, ap, refl, ◌∙◌, sym, subst, append_assoc}
use Rattle.std.proofs.Common.{arith}
use Rattle.std.proofs.lemmas.List.{take-append-drop, take-take, length-take}
use Rattle.{std.specs.Io.KnownBytes.prepend_known, tick_drive.specs.Input.ComesFirst}
use Rattle.yasir_ticks.proofs.ManyBytes.{text_more}

-- If n of the kept bytes are met, what is known of the input stays the same.
pub met_some : (before left : Option (List ℕ)) (text kept : List ℕ) (n : ℕ)
    → before ≡ prepend_known text (prepend_known kept left)
    → before ≡ prepend_known (text ++ take n kept) (prepend_known (drop n kept) left)
met_some before None text kept n p = p
met_some before (Some xs) text kept n p =
    p ∙ ap Some (sym (append_assoc text (take n kept) (drop n kept ++ xs)
    ∙ ap (λ l. text ++ l) (sym (append_assoc (take n kept) (drop n kept) xs)
    ∙ ap (λ l. l ++ xs) (take-append-drop n kept))))

-- A text followed by n - 1 bytes, and by the next one, is followed by n bytes.
pub text_last : (text bytes : List ℕ) (n : ℕ) → n ≤ length bytes → 0 < n
    → (text ++ take (n - 1) bytes) ++ get_or bytes (n - 1) 0 ∷ [] ≡ text ++ take n bytes
text_last text bytes n h some =
    let sum : n - 1 + 1 ≡ n = omega arith in
    text_more text bytes (n - 1) (omega arith) ∙ ap (λ k. text ++ take k bytes) sum

-- If n bytes of a front of the kept ones are met, what is known of the input stays the same.
pub met_slice : (before left : Option (List ℕ)) (text kept new : List ℕ) (within n : ℕ)
    → n ≤ length (take within kept) → new ≡ drop n kept
    → before ≡ prepend_known text (prepend_known kept left)
    → before ≡ prepend_known (text ++ take n (take within kept)) (prepend_known new left)
met_slice before left text kept new within n h e p =
    let same : take n (take within kept) ≡ take n kept =
    take-take n within kept (omega (arith, length-take within kept)) in
    subst (λ l. before ≡ prepend_known (text ++ l) (prepend_known new left)) (sym same)
    (subst (λ l. before ≡ prepend_known (text ++ take n kept) (prepend_known l left)) (sym e)
    (met_some before left text kept n p))

-- The text that was met, n bytes of a front of the kept ones, and the next one come first in the
-- input.
pub met_slice_more : (before left : Option (List ℕ)) (text kept : List ℕ) (within n : ℕ)
    → n < length (take within kept)
    → before ≡ prepend_known text (prepend_known kept left)
    → ComesFirst before ((text ++ take n (take within kept))
    ++ get_or (take within kept) n 0 ∷ [])
met_slice_more before left text kept within n h p = (
  prepend_known (drop (n + 1) kept) left,
  met_slice before left text kept (drop (n + 1) kept) within (n + 1) (omega arith) refl p
      ∙ ap (λ l. prepend_known l (prepend_known (drop (n + 1) kept) left))
      (sym (text_more text (take within kept) n h)),
)

-- The text that was met and the first of the kept bytes come first in the input.
pub met_first : (before left : Option (List ℕ)) (text kept : List ℕ) → 0 < length kept
    → before ≡ prepend_known text (prepend_known kept left)
    → ComesFirst before (text ++ get_or kept 0 0 ∷ [])
met_first before left text [] h p = absurd (omega arith)
met_first before left text (b ∷ rest) h p =
    (prepend_known rest left, met_some before left text (b ∷ rest) 1 p)
