-- Vectors that decode 64 hex digits, of which the two values of each pair are in adjacent lanes.
use Rattle.{hex.specs.Hex.decode_of, hex.specs.Hex.hex_digit_value, std.proofs.Common.◌≡◌}
use Rattle.std.proofs.Common.{◌∙◌, ℕ, zero, suc, ◌+◌, ◌*◌, ◌-◌, ◌/◌, ◌%◌, ◌<◌, ◌≤◌, ◌++◌, inl, inr}
use Rattle.std.proofs.Common.{List, [], ◌∷◌, length, get_or, take, Ok, ap, map, refl, arith, min}
use Rattle.std.proofs.lemmas.{Bool.cases_lt, List.get_or_append_left, List.get_or-append_right}
use Rattle.std.proofs.lemmas.{List.take_all, List.length-append, List.get_or-map, Simd.get_or_wider}
use Rattle.std.{proofs.lemmas.Simd.pick_l_whole, specs.List.range_with_len}
use Rattle.std.specs.Simd.Lanes.{chunk, number_l, digits_l, pick_l, Each1}
use Rattle.yasir_ticks.proofs.hex_digits.PairLanes.{IsPair, found, pairs_decoded}
use Rattle.yasir_ticks.specs.HexDigits.{lane_value}

-- two adjacent bytes as one word of 16 bits
pub word_of_pair : (v : List ℕ) (i : ℕ) → i + 1 < length v
    → number_l 256 (chunk i 2 v) ≡ get_or v i 0 + 256 * get_or v (i + 1) 0
word_of_pair [] i h = absurd (omega arith)
word_of_pair (x ∷ []) i h = absurd (omega arith)
word_of_pair (x ∷ y ∷ v) zero h = omega arith
word_of_pair (x ∷ y ∷ v) (suc i) h =
    let next : suc (i + 1) ≡ suc i + 1 = omega arith in
    word_of_pair (y ∷ v) i (omega arith)
    ∙ ap (λ k. get_or (y ∷ v) i 0 + 256 * get_or (x ∷ y ∷ v) k 0) next

-- A word of two values, times 4097, has both of them in its higher byte.
pub word_times : (high low : ℕ) → high < 16 → low < 16
    → (high + 256 * low) * 4097 % 65536 / 256 ≡ high * 16 + low
word_times high low h l = omega arith

-- the operations that join the two values of a word
abbrev pub join_word : ℕ → ℕ
join_word w = w * 4097 % 65536 / 256

pub words_joined : (v : List ℕ) (k : ℕ) → length v ≡ 32 → Each1 (λ x. x < 256) v
    → ((j : ℕ) → get_or v j 0 < 16) → k < 16
    → get_or (map join_word (digits_l 65536 16 (number_l 256 v))) k 0
    ≡ get_or v (2 * k) 0 * 16 + get_or v (2 * k + 1) 0
words_joined v k long bytes low h =
    let words = digits_l 65536 16 (number_l 256 v) in
    let size : length words ≡ 16 = refl in
    get_or-map join_word words k 0 0 (omega (arith, size))
    ∙ ap join_word (get_or_wider 256 2 65536 16 v k refl bytes h
    ∙ word_of_pair v (2 * k) (omega (arith, long)))
    ∙ word_times (get_or v (2 * k) 0) (get_or v (2 * k + 1) 0) (low (2 * k)) (low (2 * k + 1))

-- 32 lanes, picked in their own order, are the same lanes.
pub all_picked : (v : List ℕ) → length v ≡ 32 → pick_l 0 v (range_with_len 0 32) ≡ v
all_picked v long = pick_l_whole 0 v 32 long

-- Two lanes that hold the values of two digits give a pair and its byte.
digits_pair : (first second high low byte : ℕ) → min 16 high ≡ lane_value first
    → min 16 low ≡ lane_value second → high < 16 → low < 16 → byte ≡ high * 16 + low
    → IsPair first second byte
digits_pair first second high low byte first_value second_value h l is = record {
  high = high;
  low = low;
  first_is = found (hex_digit_value first) high first_value h;
  second_is = found (hex_digit_value second) low second_value l;
  byte_is = is;
}

-- If the vectors of a decoding hold these values, then the first 64 bytes of the text are digits
-- that spell `front` and then `back`.
pub full_decoded : (text a b front back : List ℕ)
    → ((k : ℕ) → k < 32 → min 16 (get_or a k 0) ≡ lane_value (get_or text (0 + k) 0))
    → ((k : ℕ) → k < 32 → min 16 (get_or b k 0) ≡ lane_value (get_or text (32 + k) 0))
    → ((k : ℕ) → (get_or a k 0 < 16) × (get_or b k 0 < 16))
    → length front ≡ 16 → length back ≡ 16
    → ((k : ℕ) → k < 16 → get_or front k 0 ≡ get_or a (2 * k) 0 * 16 + get_or a (2 * k + 1) 0)
    → ((k : ℕ) → k < 16 → get_or back k 0 ≡ get_or b (2 * k) 0 * 16 + get_or b (2 * k + 1) 0)
    → 64 ≤ length text → decode_of (take 64 text) ≡ Ok (front ++ back)
full_decoded text a b front back va vb low long long_back ef eb h =
    let size : length (front ++ back) ≡ 32 =
    omega (arith, length-append front back, long, long_back) in
    pairs_decoded text (front ++ back) 32 (omega arith) (omega (arith, size)) pairs
    ∙ ap Ok (take_all 32 (front ++ back) (omega (arith, size)))
  where
    pairs : (k : ℕ) → k < 32
        → IsPair (get_or text (2 * k) 0) (get_or text (2 * k + 1) 0) (get_or (front ++ back) k 0)
    pairs k within = elim (cases_lt k 16) [
      | inl less ↦
          let first : 0 + 2 * k ≡ 2 * k = omega arith in
          let second : 0 + (2 * k + 1) ≡ 2 * k + 1 = omega arith in
          digits_pair _ _ (get_or a (2 * k) 0) (get_or a (2 * k + 1) 0) _
          (va (2 * k) (omega arith) ∙ ap (λ i. lane_value (get_or text i 0)) first)
          (va (2 * k + 1) (omega arith) ∙ ap (λ i. lane_value (get_or text i 0)) second)
          (low (2 * k)).0 (low (2 * k + 1)).0
          (get_or_append_left front back 0 k (omega (arith, long)) ∙ ef k less)
      | inr more ↦
          let first : 32 + 2 * (k - 16) ≡ 2 * k = omega arith in
          let second : 32 + (2 * (k - 16) + 1) ≡ 2 * k + 1 = omega arith in
          digits_pair _ _ (get_or b (2 * (k - 16)) 0) (get_or b (2 * (k - 16) + 1) 0) _
          (vb (2 * (k - 16)) (omega arith) ∙ ap (λ i. lane_value (get_or text i 0)) first)
          (vb (2 * (k - 16) + 1) (omega arith) ∙ ap (λ i. lane_value (get_or text i 0)) second)
          (low (2 * (k - 16))).1 (low (2 * (k - 16) + 1)).1
          (get_or-append_right front back 16 k 0 long more ∙ eb (k - 16) (omega arith))
    ]
