-- The digits of bytes that are encoded in parts, and those of 32 bytes by first and second digits.
use Rattle.hex.specs.Hex.{encode_with, encode_lower}
use Rattle.std.proofs.Common.{◌≡◌, ◌∙◌, ℕ, zero, suc, ◌+◌, ◌-◌, ◌*◌, ◌/◌, ◌%◌, ◌<◌, ◌≤◌, List, []}
use Rattle.std.proofs.Common.{◌∷◌, ◌++◌, length, take, drop, map, get_or, refl, sym, ap, arith}
use Rattle.std.proofs.{Common.add-one, Math.ListN.drop_of_length-le, Math.Seq.drop-cons}
use Rattle.std.proofs.lemmas.List.{get_or-map, length-map, get_or_append_left, get_or-append_right}
use Rattle.yasir_ticks.specs.HexDigits.{first_digit, second_digit}

-- ---- in parts

pub encode-append : (t x y : List ℕ)
    → encode_with t (x ++ y) ≡ encode_with t x ++ encode_with t y
unfolding encode_with
encode-append t [] y = refl
encode-append t (b ∷ x) y =
    ap (λ l. get_or t (b / 16) 0 ∷ get_or t (b % 16) 0 ∷ l) (encode-append t x y)

pub encode-take : (t x : List ℕ) (n : ℕ)
    → take (2 * n) (encode_with t x) ≡ encode_with t (take n x)
unfolding encode_with
encode-take t x zero = refl
encode-take t [] (suc n) = let e : 2 * suc n ≡ suc (suc (2 * n)) = omega arith in rw e refl
encode-take t (b ∷ x) (suc n) =
    let e : 2 * suc n ≡ suc (suc (2 * n)) = omega arith in
    ap (λ k. take k (encode_with t (b ∷ x))) e
    ∙ ap (λ l. get_or t (b / 16) 0 ∷ get_or t (b % 16) 0 ∷ l) (encode-take t x n)

-- ---- 32 bytes

-- the values of a function at i and at i + 32, then at i + 1 and at i + 33, and so on, n pairs of
-- them
abbrev pub woven : (ℕ → ℕ) → ℕ → ℕ → List ℕ
woven f zero i = []
woven f (suc n) i = f i ∷ f (32 + i) ∷ woven f n (i + 1)

module _ (v high low : List ℕ) (long : length v ≡ 32) (high_is : high ≡ map first_digit v)
    (low_is : low ≡ map second_digit v) where
  abbrev both : ℕ → ℕ
  both k = get_or (high ++ low) k 0

  at_high : (i : ℕ) → i < 32 → both i ≡ first_digit (get_or v i 0)
  at_high i within =
      let size : length high ≡ 32 = ap length high_is ∙ length-map v first_digit ∙ long in
      get_or_append_left high low 0 i (omega arith)
      ∙ (ap (λ l. get_or l i 0) high_is ∙ get_or-map first_digit v i 0 0 (omega arith))

  at_low : (i : ℕ) → i < 32 → both (32 + i) ≡ second_digit (get_or v i 0)
  at_low i within =
      let size : length high ≡ 32 = ap length high_is ∙ length-map v first_digit ∙ long in
      let place : 32 + i - 32 ≡ i = omega arith in
      get_or-append_right high low 32 (32 + i) 0 size (omega arith)
      ∙ (ap (λ k. get_or low k 0) place
      ∙ (ap (λ l. get_or l i 0) low_is ∙ get_or-map second_digit v i 0 0 (omega arith)))

  woven-encodes : (n i : ℕ) → i + n ≡ 32 → woven both n i ≡ encode_lower (drop i v)
  unfolding encode_with
  woven-encodes zero i end =
      ap encode_lower (sym (drop_of_length-le v (let e : length v ≤ i = omega arith in e)))
  woven-encodes (suc n) i end =
      ap (λ a. a ∷ both (32 + i) ∷ woven both n (i + 1)) (at_high i (omega arith))
      ∙ (ap (λ a. first_digit (get_or v i 0) ∷ a ∷ woven both n (i + 1)) (at_low i (omega arith))
      ∙ (ap (λ l. first_digit (get_or v i 0) ∷ second_digit (get_or v i 0) ∷ l)
      (woven-encodes n (i + 1) (omega arith) ∙ ap (λ k. encode_lower (drop k v)) (add-one i))
      ∙ ap encode_lower (sym (drop-cons v i 0 (omega arith)))))

  pub all_digits : woven both 32 0 ≡ encode_lower v
  all_digits = woven-encodes 32 0 refl
