-- A time as it is written, with the digits of bytes after it, is a record.
use Rattle.capture_text.proofs.LineFacts.{all_more}
use Rattle.capture_text.specs.CaptureText.{IsRowTime, IsRowRecord, IsPair, ArePairs, recorded, point}
use Rattle.capture_text.specs.{CaptureText.fraction_value, Writing.fraction_digits}
use Rattle.{capture_text.specs.Writing.time_front, hex.proofs.HexLemmas.IsDigits-lower_digits}
use Rattle.hex.specs.Hex.{encode_lower, encode_with, lower_digits, IsBytes}
use Rattle.std.proofs.Common.{◌≡◌, ◌∙◌, ℕ, ◌+◌, ◌*◌, ◌-◌, ◌/◌, ◌%◌, ◌<◌, ◌≤◌, ◌^◌, true, List, []}
use Rattle.std.proofs.Common.{◌∷◌, ◌++◌, length, refl, ap, arith, append_assoc, slice_index, suc}
use Rattle.std.proofs.lemmas.{Fmt.decimal_by_steps, List.length-append}
use Rattle.std.specs.{Fmt.decimal, List.list_all}
use Rattle.yasir_ticks.proofs.Digits.{number_after-append}
use Rattle.yasir_ticks.specs.TickText.{is_decimal_digit, number_after}

-- ---- pairs

byte_pair : (b : ℕ) → b < 256
    → IsPair (slice_index lower_digits (b / 16)) (slice_index lower_digits (b % 16)) b
byte_pair b h = record {
  first = b / 16;
  second = b % 16;
  high_is = IsDigits-lower_digits (b / 16) (omega (arith, h));
  low_is = IsDigits-lower_digits (b % 16) (omega arith);
  byte_is = omega arith;
}

encoded_pairs : (bytes : List ℕ) → IsBytes bytes → ArePairs (encode_with lower_digits bytes) bytes
unfolding encode_with
encoded_pairs [] h = tt
encoded_pairs (b ∷ bytes) h = (byte_pair b (h 0), encoded_pairs bytes (λ i. h (suc i)))

-- ---- digits

record IsSpelled (n : ℕ) (digits : List ℕ) : Type 0 where
  all : list_all is_decimal_digit digits ≡ true
  number : number_after 0 digits ≡ n
  some : 0 < length digits

digit_is : (d : ℕ) → d < 10 → is_decimal_digit (48 + d) ≡ true
digit_is d h = grind arith

spelled : (n : ℕ) → n < 2 ^ 64 → IsSpelled n (decimal n)
spelled n fits = decimal_by_steps IsSpelled one more n fits
  where
    one : (n : ℕ) → n < 10 → IsSpelled n ((48 + n) ∷ [])
    one n few = record { all = rw (digit_is n few) refl; number = omega arith; some = omega arith }

    more : (n : ℕ) (digits : List ℕ) → 10 ≤ n → IsSpelled (n / 10) digits
        → IsSpelled n (digits ++ (48 + n % 10) ∷ [])
    more n digits big before = record {
      all = all_more is_decimal_digit digits (48 + n % 10) before.all
          (digit_is (n % 10) (omega arith));
      number = number_after-append 0 digits (48 + n % 10) []
          ∙ omega (arith, before.number);
      some = omega (arith, length-append digits ((48 + n % 10) ∷ []));
    }

-- Digits represent `n` if the first is `n / counts` and the others represent the rest of `n`.
value_step : (counts n rest : ℕ) → n / counts * counts + n % counts ≡ n → rest ≡ n % counts
    → (48 + n / counts - 48) * counts + rest ≡ n
value_step counts n rest e f =
    let digit : 48 + n / counts - 48 ≡ n / counts = omega arith in
    rw (digit, f) e

fraction_is : (n : ℕ) → n < 1000000000 → fraction_value 100000000 (fraction_digits n) ≡ n
fraction_is n h =
    value_step 100000000 n _ (omega arith)
    (value_step 10000000 (n % 100000000) _ (omega arith)
    (value_step 1000000 (n % 100000000 % 10000000) _ (omega arith)
    (value_step 100000 (n % 100000000 % 10000000 % 1000000) _ (omega arith)
    (value_step 10000 (n % 100000000 % 10000000 % 1000000 % 100000) _ (omega arith)
    (value_step 1000 (n % 100000000 % 10000000 % 1000000 % 100000 % 10000) _ (omega arith)
    (value_step 100 (n % 100000000 % 10000000 % 1000000 % 100000 % 10000 % 1000) _ (omega arith)
    (value_step 10 (n % 100000000 % 10000000 % 1000000 % 100000 % 10000 % 1000 % 100) _
    (omega arith)
    (value_step 1 (n % 100000000 % 10000000 % 1000000 % 100000 % 10000 % 1000 % 100 % 10) _
    (omega arith) (omega arith)))))))))

fraction_all : (n : ℕ) → n < 1000000000 → list_all is_decimal_digit (fraction_digits n) ≡ true
fraction_all n h =
    rw (
      digit_is (n / 100000000) (omega (arith, h)),
      digit_is (n % 100000000 / 10000000) (omega arith),
      digit_is (n % 100000000 % 10000000 / 1000000) (omega arith),
      digit_is (n % 100000000 % 10000000 % 1000000 / 100000) (omega arith),
      digit_is (n % 100000000 % 10000000 % 1000000 % 100000 / 10000) (omega arith),
      digit_is (n % 100000000 % 10000000 % 1000000 % 100000 % 10000 / 1000) (omega arith),
      digit_is (n % 100000000 % 10000000 % 1000000 % 100000 % 10000 % 1000 / 100) (omega arith),
      digit_is (n % 100000000 % 10000000 % 1000000 % 100000 % 10000 % 1000 % 100 / 10)
          (omega arith),
      digit_is (n % 100000000 % 10000000 % 1000000 % 100000 % 10000 % 1000 % 100 % 10 / 1)
          (omega arith),
    ) refl

time_is : (start : ℕ) → start < 2 ^ 64
    → IsRowTime (decimal (start / 1000000000) ++ point ∷ fraction_digits (start % 1000000000)) start
time_is start fits =
    let whole = spelled (start / 1000000000) (omega (arith, fits)) in
    let rest : ℕ = start % 1000000000 in
    record {
      whole = decimal (start / 1000000000);
      fraction = fraction_digits rest;
      is = refl;
      some = whole.some;
      digits = whole.all;
      fraction_digits = fraction_all rest (omega arith);
      value = omega (arith, whole.number, fraction_is rest (omega arith));
      fits = fits;
    }

pub written_record : (start : ℕ) (front : List ℕ) → start < 2 ^ 64
    → front ≡ ((decimal (start / 1000000000) ++ point ∷ [])
    ++ fraction_digits (start % 1000000000)) ++ 32 ∷ []
    → (bytes : List ℕ) → 0 < length bytes → IsBytes bytes
    → IsRowRecord (front ++ encode_lower bytes) start (recorded start bytes)
written_record start front fits e bytes some h =
    let whole : List ℕ = decimal (start / 1000000000) in
    let fraction : List ℕ = fraction_digits (start % 1000000000) in
    record {
      seconds = whole ++ point ∷ fraction;
      blank = 32;
      digits = encode_lower bytes;
      bytes = bytes;
      is = ap (λ x. x ++ encode_lower bytes) (e ∙ ap (λ x. x ++ 32 ∷ [])
          (append_assoc whole (point ∷ []) fraction))
          ∙ append_assoc (whole ++ point ∷ fraction) (32 ∷ []) (encode_lower bytes);
      stamped = time_is start fits;
      apart = refl;
      pairs = encoded_pairs bytes h;
      some = some;
      items_are = refl;
    }

-- The parts of a record, in the order in which they are written, are a record.
pub written_parts : (start : ℕ) (none whole pointed fractioned front : List ℕ) → start < 2 ^ 64
    → none ≡ [] → whole ≡ none ++ decimal (start / 1000000000) → pointed ≡ whole ++ point ∷ []
    → fractioned ≡ pointed ++ fraction_digits (start % 1000000000)
    → front ≡ fractioned ++ 32 ∷ []
    → (bytes : List ℕ) → 0 < length bytes → IsBytes bytes
    → IsRowRecord (front ++ encode_lower bytes) start (recorded start bytes)
written_parts start none whole pointed fractioned front fits a b c d e =
    let digits : List ℕ = decimal (start / 1000000000) in
    let fraction : List ℕ = fraction_digits (start % 1000000000) in
    written_record start front fits
    (e ∙ ap (λ x. x ++ 32 ∷ []) (d ∙ ap (λ x. x ++ fraction) (c ∙ ap (λ x. x ++ point ∷ [])
    (b ∙ ap (λ x. x ++ digits) a))))

pub front_parts : (start : ℕ) (none whole pointed fractioned front : List ℕ)
    → none ≡ [] → whole ≡ none ++ decimal (start / 1000000000) → pointed ≡ whole ++ point ∷ []
    → fractioned ≡ pointed ++ fraction_digits (start % 1000000000)
    → front ≡ fractioned ++ 32 ∷ [] → front ≡ time_front start
front_parts start none whole pointed fractioned front a b c d e =
    e ∙ ap (λ x. x ++ 32 ∷ []) (d ∙ ap (λ x. x ++ fraction_digits (start % 1000000000))
    (c ∙ ap (λ x. x ++ point ∷ []) (b ∙ ap (λ x. x ++ decimal (start / 1000000000)) a)))
