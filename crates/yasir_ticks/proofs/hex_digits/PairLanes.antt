-- Vectors that decode pairs of hex digits, lane by lane.
use Rattle.hex.specs.Hex.{decode_of, decode_pairs, hex_digit_value}
use Rattle.memchr.{proofs.lemmas.LaneLemmas.HasLanes-zip2, specs.Lanes.HasLanes}
use Rattle.std.proofs.Common.{◌≡◌, ◌↔◌, ◌∙◌, ◌==◌, ℕ, zero, suc, ◌+◌, ◌*◌, ◌-◌, ◌%◌, ◌<◌, ◌≤◌, ◌++◌}
use Rattle.std.proofs.Common.{inl, inr, Bool, true, false, List, [], ◌∷◌, length, get_or, take, map}
use Rattle.std.proofs.Common.{replicate, Option, Some, None, unwrap_or, Ok, refl, ap, sym, cond}
use Rattle.std.proofs.Common.{w64, subst, arith, bit_and, ltb, ◌^◌, min, ◌⊎◌}
use Rattle.std.proofs.lemmas.Bool.{agree_below_at, eqb-true, cases_lt, lt-ltb, le-ltb}
use Rattle.std.proofs.lemmas.List.{take_more, get_or-map, length-map, get_or_past}
use Rattle.std.proofs.lemmas.List.{get_or_append_left, get_or-append_right}
use Rattle.std.proofs.lemmas.Nat.Bits.{bit_at-zero, bit_at-trailing_zeros}
use Rattle.std.specs.Int.{bit_at, trailing_zeros}
use Rattle.std.specs.Simd.Lanes.{zip2, sel_l, top}
use Rattle.yasir_ticks.proofs.hex_digits.Decoding.{decode_of-more, take_pair}
use Rattle.yasir_ticks.specs.HexDigits.{HasValues, lane_value, lane_pair, lane_greater, lane_raised}

-- ---- the values of digits

abbrev sub8 : ℕ → ℕ → ℕ
sub8 a b = (a + (256 - b)) % 256

abbrev add8 : ℕ → ℕ → ℕ
add8 a b = (a + b) % 256

abbrev mul8 : ℕ → ℕ → ℕ
mul8 a b = a * b % 256

abbrev below8 : ℕ → ℕ → ℕ
below8 a b = cond (ltb a b) 255 0

-- the greater and the less of two lanes
abbrev max8 : ℕ → ℕ → ℕ
max8 a b = cond (top 7 (below8 a b)) b a

abbrev min8 : ℕ → ℕ → ℕ
min8 a b = cond (top 7 (below8 a b)) a b

abbrev max_lanes : List ℕ → List ℕ → List ℕ
max_lanes a b = sel_l (map (top 7) (zip2 below8 a b)) b a

abbrev min_lanes : List ℕ → List ℕ → List ℕ
min_lanes a b = sel_l (map (top 7) (zip2 below8 a b)) a b

-- what the operations compute for one lane
abbrev value_by_steps : ℕ → ℕ
value_by_steps c =
    min8 (sub8 (max8 (add8 c 198) 6) 246) (add8 (min8 (sub8 (bit_and c 223) 65) 245) 10)

-- what the operations compute for n lanes
abbrev values_by_steps : ℕ → List ℕ → List ℕ
values_by_steps n c =
    min_lanes
    (zip2 sub8 (max_lanes (zip2 add8 c (replicate n 198)) (replicate n 6)) (replicate n 246))
    (zip2 add8 (min_lanes (zip2 sub8 (zip2 bit_and c (replicate n 223)) (replicate n 65))
    (replicate n 245)) (replicate n 10))

values_are : (n : ℕ) (c : List ℕ) → length c ≡ n → values_by_steps n c ≡ map value_by_steps c
values_are zero [] h = refl
values_are zero (b ∷ c) h = absurd (omega arith)
values_are (suc n) [] h = absurd (omega arith)
values_are (suc n) (b ∷ c) h = ap (λ l. value_by_steps b ∷ l) (values_are n c (omega arith))

-- For each byte the operations give its value, or 16 or more if it is no digit.
value_is : (c : ℕ) → c < 256 → min 16 (value_by_steps c) ≡ lane_value c
value_is c h = eqb-true (min 16 (value_by_steps c)) (lane_value c)
    (agree_below_at (λ k. min 16 (value_by_steps k) == lane_value k) (λ k. true) 256 c refl h)

pub lanes_values : (c : List ℕ) → length c ≡ 32 → ((k : ℕ) → k < 32 → get_or c k 0 < 256)
    → HasValues (values_by_steps 32 c) (λ k. get_or c k 0)
lanes_values c long bytes = rw (values_are 32 c long) (record {
  long = length-map c value_by_steps ∙ long;
  each = λ k h. ap (min 16) (get_or-map value_by_steps c k 0 0 (omega arith))
      ∙ value_is (get_or c k 0) (bytes k h);
})

-- ---- the two bytes of each pair

-- the values of a function at i, i + 2, and so on, n of them
abbrev pub every_other : (ℕ → ℕ) → ℕ → ℕ → List ℕ
every_other f zero i = []
every_other f (suc n) i = f i ∷ every_other f n (i + 2)

pub every_other_long : (f : ℕ → ℕ) (n i : ℕ) → length (every_other f n i) ≡ n
every_other_long f zero i = refl
every_other_long f (suc n) i = ap suc (every_other_long f n (i + 2))

every_other_at : (f : ℕ → ℕ) (n i k : ℕ) → k < n → get_or (every_other f n i) k 0 ≡ f (2 * k + i)
every_other_at f zero i k h = absurd (omega arith)
every_other_at f (suc n) i zero h =
    let same : i ≡ 2 * 0 + i = omega arith in ap f same
every_other_at f (suc n) i (suc k) h =
    let same : 2 * k + (i + 2) ≡ 2 * suc k + i = omega arith in
    every_other_at f n (i + 2) k (omega arith) ∙ ap f same

pub lanes_of_pairs : (f : ℕ → ℕ) (i : ℕ) (place : ℕ → ℕ) → ((k : ℕ) → 2 * k + i ≡ place k)
    → HasLanes (every_other f 32 i) (λ k. f (place k))
lanes_of_pairs f i place same = record {
  long = every_other_long f 32 i;
  each = λ k h. every_other_at f 32 i k h ∙ ap f (same k);
}

-- ---- the bytes of pairs of values

joined_are : (n : ℕ) (high low : List ℕ) → length high ≡ n → length low ≡ n
    → zip2 add8 (zip2 mul8 high (replicate n 16)) low ≡ zip2 lane_pair high low
joined_are zero [] [] h l = refl
joined_are zero (a ∷ high) low h l = absurd (omega arith)
joined_are zero [] (b ∷ low) h l = refl
joined_are (suc n) [] low h l = absurd (omega arith)
joined_are (suc n) (a ∷ high) [] h l = absurd (omega arith)
joined_are (suc n) (a ∷ high) (b ∷ low) h l =
    ap (λ x. lane_pair a b ∷ x) (joined_are n high low (omega arith) (omega arith))

pub lanes_joined : (high low : List ℕ) → length high ≡ 32 → length low ≡ 32
    → HasLanes (zip2 add8 (zip2 mul8 high (replicate 32 16)) low)
    (λ k. lane_pair (get_or high k 0) (get_or low k 0))
lanes_joined high low h l = rw (joined_are 32 high low h l) (HasLanes-zip2 lane_pair high low h l)

-- ---- the greater of two values

greater_by_steps : (a b : ℕ) (t : Bool) → cond (top 7 (cond t 255 0)) b a ≡ cond t b a
greater_by_steps a b true = refl
greater_by_steps a b false = refl

greater_are : (a b : List ℕ)
    → sel_l (map (top 7) (zip2 below8 a b)) b a ≡ zip2 lane_greater a b
greater_are [] b = refl
greater_are (x ∷ a) [] = refl
greater_are (x ∷ a) (y ∷ b) =
    ap (λ g. g ∷ sel_l (map (top 7) (zip2 below8 a b)) b a) (greater_by_steps x y (ltb x y))
    ∙ ap (λ l. lane_greater x y ∷ l) (greater_are a b)

pub lanes_greater : (a b : List ℕ) → length a ≡ 32 → length b ≡ 32
    → HasLanes (sel_l (map (top 7) (zip2 below8 a b)) b a)
    (λ k. lane_greater (get_or a k 0) (get_or b k 0))
lanes_greater a b p q = rw (greater_are a b) (HasLanes-zip2 lane_greater a b p q)

-- ---- lanes that are raised

raised_one : (a : ℕ) → add8 (min8 a 143) 112 ≡ lane_raised a
raised_one a =
    ap (λ m. add8 m 112) (greater_by_steps 143 a (ltb a 143)) ∙ small a (cases_lt a 143)
  where
    small : (a : ℕ) → (a < 143) ⊎ (143 ≤ a) → add8 (cond (ltb a 143) a 143) 112 ≡ lane_raised a
    small a (inl less) = rw (lt-ltb a 143 less)
        (let e : (a + 112) % 256 ≡ a + 112 = omega arith in e)
    small a (inr more) = rw (le-ltb a 143 more) refl

raised_are : (n : ℕ) (v : List ℕ) → length v ≡ n
    → zip2 add8 (min_lanes v (replicate n 143)) (replicate n 112) ≡ map lane_raised v
raised_are zero [] h = refl
raised_are zero (a ∷ v) h = absurd (omega arith)
raised_are (suc n) [] h = absurd (omega arith)
raised_are (suc n) (a ∷ v) h =
    ap (λ x. x ∷ zip2 add8 (min_lanes v (replicate n 143)) (replicate n 112)) (raised_one a)
    ∙ ap (λ l. lane_raised a ∷ l) (raised_are n v (omega arith))

pub lanes_raised : (v : List ℕ) → length v ≡ 32
    → HasLanes (zip2 add8 (min_lanes v (replicate 32 143)) (replicate 32 112))
    (λ k. lane_raised (get_or v k 0))
lanes_raised v long = rw (raised_are 32 v long) (record {
  long = length-map v lane_raised ∙ long;
  each = λ k h. get_or-map lane_raised v k 0 0 (omega arith);
})

-- ---- how many lanes are digits

-- Holds if each bit k of the mask is 1 exactly if lane k is 128 or more.
abbrev pub MarksHigh : ℕ → List ℕ → Type 0
MarksHigh m v = (k : ℕ) → (bit_at m k ≡ 1) ↔ (128 ≤ get_or v k 0)

unmarked : (v : List ℕ) (m k : ℕ) → MarksHigh m v → bit_at m k ≡ 0 → get_or v k 0 < 128
unmarked v m k marks none =
    elim (cases_lt (get_or v k 0) 128) [
      | inl low ↦ low
      | inr high ↦ absurd (omega (arith, (marks k).1 high))
    ]

pub none_high : (v : List ℕ) (m : ℕ) → MarksHigh m v → m ≡ 0 → (k : ℕ) → get_or v k 0 < 128
none_high v m marks e k = unmarked v m k marks (rw e (bit_at-zero k))

pub first_high : (v : List ℕ) (m : ℕ) → MarksHigh m v → length v ≡ 32 → 0 < m → m < 2 ^ 64
    → (trailing_zeros w64 m < 32) × ((k : ℕ) → k < trailing_zeros w64 m → get_or v k 0 < 128)
first_high v m marks long some fits =
    let h = bit_at-trailing_zeros w64 m some fits in
    let high = (marks (trailing_zeros w64 m)).0 h.1 in (
      elim (cases_lt (trailing_zeros w64 m) 32) [
        | inl within ↦ within
        | inr out ↦
            absurd (omega (arith, get_or_past v (trailing_zeros w64 m) 0 (omega arith)))
      ],
      λ k before. unmarked v m k marks (h.2 k before),
    )

-- ---- 64 bytes of text

-- Two loads, one after the other, hold the first 64 bytes of the text.
pub loaded : (text a b : List ℕ) → HasLanes a (λ k. get_or text (0 + k) 0)
    → HasLanes b (λ k. get_or text (32 + k) 0) → (j : ℕ) → j < 64
    → get_or (a ++ b) j 0 ≡ get_or text j 0
loaded text a b f g j h = elim (cases_lt j 32) [
  | inl front ↦
      let fits : j < length a = omega (arith, f.long) in
      let place : 0 + j ≡ j = omega arith in
      get_or_append_left a b 0 j fits ∙ f.each j front ∙ ap (λ i. get_or text i 0) place
  | inr back ↦
      let place : 32 + (j - 32) ≡ j = omega arith in
      get_or-append_right a b 32 j 0 f.long back ∙ g.each (j - 32) (omega arith)
      ∙ ap (λ i. get_or text i 0) place
]

-- Holds if two bytes are digits that spell this byte.
pub record IsPair (first second byte : ℕ) : Type 0 where
  pub high : ℕ
  pub low : ℕ
  pub first_is : hex_digit_value first ≡ Some high
  pub second_is : hex_digit_value second ≡ Some low
  pub byte_is : byte ≡ high * 16 + low

pub found : (o : Option ℕ) (v : ℕ) → min 16 v ≡ unwrap_or o 16 → v < 16 → o ≡ Some v
found (Some w) v e h = let same : w ≡ v = omega arith in ap Some same
found None v e h = absurd (omega arith)

pair_fits : (high low : ℕ) → high < 16 → low < 16 → lane_pair high low ≡ high * 16 + low
pair_fits high low h l = omega arith

pub both_low : (a b : ℕ) → lane_raised (lane_greater a b) < 128 → (a < 16) × (b < 16)
both_low a b h = grind arith

-- If the greater of two values, raised, is below 128, then both are values of digits.
pub is_pair : (first second high low : ℕ) → min 16 high ≡ lane_value first
    → min 16 low ≡ lane_value second → lane_raised (lane_greater high low) < 128
    → IsPair first second (lane_pair high low)
is_pair first second high low first_value second_value h =
    let small = both_low high low h in
    record {
      high = high;
      low = low;
      first_is = found (hex_digit_value first) high first_value small.0;
      second_is = found (hex_digit_value second) low second_value small.1;
      byte_is = pair_fits high low small.0 small.1;
    }

-- If each of n pairs of a text spells its byte, then the pairs decode to these n bytes.
pub pairs_decoded : (text bytes : List ℕ) (n : ℕ) → 2 * n ≤ length text → n ≤ length bytes
    → ((k : ℕ) → k < n
    → IsPair (get_or text (2 * k) 0) (get_or text (2 * k + 1) 0) (get_or bytes k 0))
    → decode_of (take (2 * n) text) ≡ Ok (take n bytes)
unfolding decode_pairs
pairs_decoded text bytes zero h l pairs = refl
pairs_decoded text bytes (suc n) h l pairs =
    let before = pairs_decoded text bytes n (omega arith) (omega arith)
    (λ k small. pairs k (omega arith)) in
    let pair = pairs n (omega arith) in
    let more = decode_of-more (take (2 * n) text) (take n bytes) (get_or text (2 * n) 0)
    (get_or text (2 * n + 1) 0) pair.high pair.low before pair.first_is pair.second_is in
    let size : 2 * suc n ≡ 2 * n + 2 = omega arith in
    let one : suc n ≡ n + 1 = omega arith in
    let front : take (2 * suc n) text
    ≡ take (2 * n) text ++ get_or text (2 * n) 0 ∷ get_or text (2 * n + 1) 0 ∷ [] =
    ap (λ k. take k text) size ∙ take_pair text (2 * n) (omega arith) in
    let whole : take (suc n) bytes ≡ take n bytes ++ (pair.high * 16 + pair.low) ∷ [] =
    ap (λ k. take k bytes) one ∙ take_more bytes n 0 (omega arith)
    ∙ ap (λ b. take n bytes ++ b ∷ []) pair.byte_is in
    rw (front, whole) more

-- If the vectors of a decoding hold these values, and the first n lanes are below 128, then the
-- first n pairs of the text decode to the first n bytes.
pub pairs_of_lanes : (text a b first second high low worst up bytes : List ℕ) (n : ℕ)
    → HasLanes a (λ k. get_or text (0 + k) 0) → HasLanes b (λ k. get_or text (32 + k) 0)
    → HasLanes first (λ k. get_or (a ++ b) (2 * k) 0)
    → HasLanes second (λ k. get_or (a ++ b) (2 * k + 1) 0)
    → HasValues high (λ k. get_or first k 0)
    → HasValues low (λ k. get_or second k 0)
    → HasLanes worst (λ k. lane_greater (get_or high k 0) (get_or low k 0))
    → HasLanes up (λ k. lane_raised (get_or worst k 0))
    → HasLanes bytes (λ k. lane_pair (get_or high k 0) (get_or low k 0))
    → n ≤ 32 → ((k : ℕ) → k < n → get_or up k 0 < 128) → 64 ≤ length text
    → decode_of (take (2 * n) text) ≡ Ok (take n bytes)
pairs_of_lanes text a b first second high low worst up bytes n la lb lf ls lh ll lw lu lj within
    good h =
    pairs_decoded text bytes n (omega arith) (omega (arith, lj.long)) (λ k l.
    let one : get_or first k 0 ≡ get_or text (2 * k) 0 =
    lf.each k (omega arith) ∙ loaded text a b la lb (2 * k) (omega arith) in
    let two : get_or second k 0 ≡ get_or text (2 * k + 1) 0 =
    ls.each k (omega arith) ∙ loaded text a b la lb (2 * k + 1) (omega arith) in
    let high_is : min 16 (get_or high k 0) ≡ lane_value (get_or text (2 * k) 0) =
    lh.each k (omega arith) ∙ ap lane_value one in
    let low_is : min 16 (get_or low k 0) ≡ lane_value (get_or text (2 * k + 1) 0) =
    ll.each k (omega arith) ∙ ap lane_value two in
    let up_is : get_or up k 0 ≡ lane_raised (lane_greater (get_or high k 0) (get_or low k 0)) =
    lu.each k (omega arith) ∙ ap lane_raised (lw.each k (omega arith)) in
    let byte_is : get_or bytes k 0 ≡ lane_pair (get_or high k 0) (get_or low k 0) =
    lj.each k (omega arith) in
    subst (IsPair (get_or text (2 * k) 0) (get_or text (2 * k + 1) 0)) (sym byte_is)
    (is_pair (get_or text (2 * k) 0) (get_or text (2 * k + 1) 0) (get_or high k 0)
    (get_or low k 0) high_is low_is (subst (λ v. v < 128) up_is (good k l))))
