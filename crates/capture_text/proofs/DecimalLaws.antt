-- Numbers and fractions, digit by digit.
use Rattle.std.proofs.Common.{◌≡◌, ◌∙◌, ℕ, ◌-◌, ◌/◌, ◌<◌, ◌≤◌, true, false, List, [], ◌∷◌, length, take, drop}
use Rattle.std.proofs.Common.{slice_index, Option, Some, None, refl, ap, sym, arith}
use Rattle.std.proofs.lemmas.Bool.{cond-true, cond-false}
use Rattle.std.proofs.lemmas.List.{take_all}
use Rattle.yasir_ticks.specs.TickText.{is_decimal_digit}
use Rattle.capture_text.specs.Decimals.{with_digit, with_fraction, and_then, number_from, fraction_from}

-- the digits after the first one
behind_first : (digit : ℕ) (digits : List ℕ)
    → take (length (digit ∷ digits) - 1) (drop 1 (digit ∷ digits)) ≡ digits
behind_first digit digits = take_all (length (digit ∷ digits) - 1) digits (omega arith)

module _ (value : ℕ) where
  pub number_ends : (digits : List ℕ) → length digits < 1 → number_from value digits ≡ Some value
  unfolding number_from
  number_ends [] h = refl
  number_ends (digit ∷ digits) h = absurd (omega arith)

  pub number_stops : (digits : List ℕ) → 1 ≤ length digits
      → is_decimal_digit (slice_index digits 0) ≡ false → number_from value digits ≡ None
  unfolding number_from
  number_stops [] h other = absurd (omega arith)
  number_stops (digit ∷ digits) h other = cond-false _ _ _ other

  pub number_more : (digits : List ℕ) (longer : Option ℕ) → 1 ≤ length digits
      → is_decimal_digit (slice_index digits 0) ≡ true
      → longer ≡ with_digit value (slice_index digits 0)
      → and_then longer (λ n. number_from n (take (length digits - 1) (drop 1 digits)))
      ≡ number_from value digits
  unfolding number_from
  number_more [] longer h digital is = absurd (omega arith)
  number_more (digit ∷ digits) longer h digital is =
      ap (λ x. and_then longer (λ n. number_from n x)) (behind_first digit digits)
      ∙ ap (λ w. and_then w (λ n. number_from n digits)) is ∙ sym (cond-true _ _ _ digital)

module _ (time counts : ℕ) where
  pub fraction_ends : (digits : List ℕ) → length digits < 1
      → fraction_from time counts digits ≡ Some time
  unfolding fraction_from
  fraction_ends [] h = refl
  fraction_ends (digit ∷ digits) h = absurd (omega arith)

  pub fraction_stops : (digits : List ℕ) → 1 ≤ length digits
      → is_decimal_digit (slice_index digits 0) ≡ false → fraction_from time counts digits ≡ None
  unfolding fraction_from
  fraction_stops [] h other = absurd (omega arith)
  fraction_stops (digit ∷ digits) h other = cond-false _ _ _ other

  pub fraction_more : (digits : List ℕ) (longer : Option ℕ) → 1 ≤ length digits
      → is_decimal_digit (slice_index digits 0) ≡ true
      → longer ≡ with_fraction time counts (slice_index digits 0)
      → and_then longer
      (λ t. fraction_from t (counts / 10) (take (length digits - 1) (drop 1 digits)))
      ≡ fraction_from time counts digits
  unfolding fraction_from
  fraction_more [] longer h digital is = absurd (omega arith)
  fraction_more (digit ∷ digits) longer h digital is =
      ap (λ x. and_then longer (λ t. fraction_from t (counts / 10) x))
      (behind_first digit digits)
      ∙ ap (λ w. and_then w (λ t. fraction_from t (counts / 10) digits)) is
      ∙ sym (cond-true _ _ _ digital)
