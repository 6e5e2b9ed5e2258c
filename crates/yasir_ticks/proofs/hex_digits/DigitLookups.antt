-- A table of sixteen bytes that is in 32 lanes twice, read at each lane.
use Rattle.std.proofs.Common.{◌≡◌, ◌∙◌, ℕ, ◌+◌, ◌*◌, ◌/◌, ◌%◌, ◌^◌, ◌<◌, List, map, length, get_or}
use Rattle.std.proofs.Common.{replicate, bit_and, refl, sym, ap, arith, w8, Fits, true, [], ◌∷◌}
use Rattle.std.proofs.{Common.nat_eq, lemmas.Bool.agree_below_at, lemmas.Bool.eqb-true}
use Rattle.std.proofs.lemmas.{List.get_or-map, List.length-map, List.ext_get_or, Nat.and_le_r}
use Rattle.std.proofs.lemmas.{Nat.and_mask, Simd.Each1-all, Simd.Each1-weaker, Simd.Each1-zip2}
use Rattle.std.proofs.lemmas.Simd.{Each1-get_or, Each2-splat, below_from_Fits, length-zip2, swz_l}
use Rattle.std.proofs.lemmas.Simd.{SwzOk, SwzOk-from_below, length-swz_l, get_or-swz_l_below}
use lib.Lanes.{zip2, Each1}
use Rattle.hex.specs.Hex.{lower_digits}
use Rattle.yasir_ticks.specs.declared.hex_digits.digit_lanes.TheConstants.{DIGITS}

-- 32 lanes of bytes
abbrev pub IsBlock : List ℕ → Type 0
IsBlock v = (length v ≡ 32) × Each1 (Fits w8) v

abbrev pub down : ℕ → ℕ → ℕ
down a b = a / 2 ^ b

pub high_ok : (v : List ℕ) → IsBlock v → SwzOk w8 16 32 0 (zip2 down v (replicate 32 4))
high_ok v fits =
    let small = Each1-weaker (λ a. a < 256) (λ a. a / 16 < 16) (λ a h. omega arith) v
    (below_from_Fits w8 v fits.1) in
    SwzOk-from_below w8 16 2 32 0 (zip2 down v (replicate 32 4)) refl
    (omega (arith, length-zip2 down v (replicate 32 4) fits.0))
    (Each1-zip2 down (λ j. j < 16) v (replicate 32 4)
    (Each2-splat (λ a b. down a b < 16) v 32 4 small))

pub low_ok : (v : List ℕ) → IsBlock v → SwzOk w8 16 32 0 (zip2 bit_and v (replicate 32 15))
low_ok v fits =
    let small = Each1-all (λ a. bit_and a 15 < 16) (λ a. omega (arith, and_le_r a 15)) v in
    SwzOk-from_below w8 16 2 32 0 (zip2 bit_and v (replicate 32 15)) refl
    (omega (arith, length-zip2 bit_and v (replicate 32 15) fits.0))
    (Each1-zip2 bit_and (λ j. j < 16) v (replicate 32 15)
    (Each2-splat (λ a b. bit_and a b < 16) v 32 15 small))

-- If a table t is two copies of s, then looking up the places g x, all below 16, reads s at them.
pub looked_up : (t s : List ℕ) (g : ℕ → ℕ) (v js : List ℕ) → IsBlock v → js ≡ map g v
    → ((x : ℕ) → x < 256 → g x < 16)
    → ((i j : ℕ) → i < 32 → j < 16 → get_or t (16 * ((0 + i) / 16) + j) 0 ≡ get_or s j 0)
    → swz_l w8 16 t 0 js ≡ map (λ x. get_or s (g x) 0) v
looked_up t s g v js fits e small copies =
    let long : length js ≡ 32 = ap length e ∙ length-map v g ∙ fits.0 in
    ext_get_or 0 _ _
    (length-swz_l w8 16 t 0 js ∙ long ∙ sym (length-map v (λ x. get_or s (g x) 0) ∙ fits.0))
    (λ i h.
    let lt : i < 32 = omega (arith, length-swz_l w8 16 t 0 js) in
    let within : i < length v = omega (arith, fits.0) in
    let is : get_or js i 0 ≡ g (get_or v i 0) =
    ap (λ l. get_or l i 0) e ∙ get_or-map g v i 0 0 within in
    let byte : get_or v i 0 < 256 =
    omega (arith, (Each1-get_or (Fits w8) v i 0 within fits.1).fits) in
    let below : get_or js i 0 < 16 = omega (arith, small (get_or v i 0) byte) in
    get_or-swz_l_below w8 16 t 0 js i (omega arith) below
    ∙ copies i (get_or js i 0) lt below
    ∙ ap (λ k. get_or s k 0) is ∙ sym (get_or-map (λ x. get_or s (g x) 0) v i 0 0 within))

-- the low four bits
pub low_bits : (v : List ℕ) → map (λ x. bit_and x 15) v ≡ map (λ x. x % 16) v
low_bits [] = refl
low_bits (b ∷ v) =
    ap (λ d. d ∷ map (λ x. bit_and x 15) v) (and_mask b 4)
    ∙ ap (λ l. b % 16 ∷ l) (low_bits v)

-- The table has the digits twice.
pub copied : (i j : ℕ) → i < 32 → j < 16
    → get_or DIGITS (16 * ((0 + i) / 16) + j) 0 ≡ get_or lower_digits j 0
copied i j within below =
    let place : 16 * ((0 + i) / 16) + j < 32 = omega arith in
    let low : (16 * ((0 + i) / 16) + j) % 16 ≡ j = omega arith in
    eqb-true (get_or DIGITS (16 * ((0 + i) / 16) + j) 0)
    (get_or lower_digits ((16 * ((0 + i) / 16) + j) % 16) 0)
    (agree_below_at (λ k. nat_eq (get_or DIGITS k 0) (get_or lower_digits (k % 16) 0)) (λ k. true)
    32 (16 * ((0 + i) / 16) + j) refl place)
    ∙ ap (λ k. get_or lower_digits k 0) low
