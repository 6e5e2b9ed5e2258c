-- Lists that end in a check of 16 bits over the bytes before it, low byte first.
use Rattle.std.specs.Prelude.{◌≡◌, ℕ, ◌-◌, ◌/◌, ◌%◌, ◌==◌, ◌&&◌, nat_le, Bool, true, false}
use Rattle.std.specs.Prelude.{List, [], ◌∷◌, ◌++◌, length, take, get_or, bit_xor}
use Rattle.std.specs.Int.Bits.{xor_assoc, xor_self}
use Rattle.std.proofs.Common.{arith, ◌∙◌, sym, ap, length-append}
use Rattle.std.proofs.lemmas.List.{get_or_push, take-append-le}
use Rattle.std.proofs.lemmas.Bool.{and_parts, and_right, eqb-true, ne_eqb}
use Rattle.line_rules.specs.Bytes.{low_first}

-- all bytes but the last two
abbrev pub body_of : List ℕ → List ℕ
body_of x = take (length x - 2) x

-- Holds if there are at least two bytes, and the last two are the check of those before them, low
-- byte first.
pub record EndsInCheck (check : List ℕ → ℕ) (x : List ℕ) : Type 0 where
  pub body : List ℕ
  pub ends : x ≡ body ++ low_first (check body)

-- whether `EndsInCheck` holds
unfoldable pub ends_in_check : (List ℕ → ℕ) → List ℕ → Bool
ends_in_check check x =
    nat_le 2 (length x)
    && get_or x (length x - 2) 0 == check (body_of x) % 256
    && get_or x (length x - 1) 0 == check (body_of x) / 256

-- the body and the last byte of a list to which a byte was appended
push-body : (h : List ℕ) (c : ℕ) → body_of (h ++ c ∷ []) ≡ take (length h - 1) h
push-body h c =
    let front : length (h ++ c ∷ []) - 2 ≡ length h - 1 =
    omega (arith, length-append h (c ∷ [])) in
    ap (λ n. take n (h ++ c ∷ [])) front ∙ take-append-le (length h - 1) h (c ∷ []) (omega arith)

push-last : (h : List ℕ) (c : ℕ) → get_or (h ++ c ∷ []) (length (h ++ c ∷ []) - 1) 0 ≡ c
push-last h c = get_or_push h c 0 _ (omega (arith, length-append h (c ∷ [])))

-- a byte whose lowest bit is turned is a different byte
turned-other : (c : ℕ) → bit_xor c 1 ≡ c → ⊥
turned-other c same =
    let back : bit_xor c (bit_xor c 1) ≡ 1 =
    sym (xor_assoc c c 1) ∙ ap (λ n. bit_xor n 1) (xor_self c) in
    let none : bit_xor c (bit_xor c 1) ≡ 0 = ap (bit_xor c) same ∙ xor_self c in
    omega arith

-- If a list ends in its check, it no longer does when the lowest bit of its last byte is turned.
pub ends_in_check-turned : (check : List ℕ → ℕ) (h : List ℕ) (c : ℕ)
    → ends_in_check check (h ++ c ∷ []) ≡ true → ends_in_check check (h ++ bit_xor c 1 ∷ []) ≡ false
unfolding ends_in_check
ends_in_check-turned check h c right =
    let last = eqb-true _ _ (and_parts _ _ right).1 in
    let before : c ≡ check (body_of (h ++ c ∷ [])) / 256 = sym (push-last h c) ∙ last in
    and_right _ _ (ne_eqb _ _ (λ same. turned-other c
    (sym (push-last h (bit_xor c 1)) ∙ same
    ∙ ap (λ x. check x / 256) (push-body h (bit_xor c 1) ∙ sym (push-body h c)) ∙ sym before)))
