-- Digits of `+` and `-` lines: one more digit, and bytes that are no digits.
use Rattle.hex.proofs.HexLemmas.{decode_of-odd}
use Rattle.hex.specs.{Hex.decode_of, Hex.is_hex_digit, declared.error.FromHexError.FromHexError}
use Rattle.std.proofs.Common.{◌≡◌, ◌∙◌, ◌==◌, ◌&&◌, ℕ, ◌+◌, ◌*◌, ◌-◌, ◌%◌, ◌≤◌, ◌<◌, Bool, true}
use Rattle.std.proofs.Common.{false, not, List, [], ◌∷◌, ◌++◌, length, map, replicate, Option, Some}
use Rattle.std.proofs.Common.{None, Result, Ok, Err, refl, sym, cond, arith, option_map, leb}
use Rattle.std.proofs.lemmas.{Bool.both_ways, Bool.and_parts, List.Folds.list_all-append}
use Rattle.std.specs.{List.list_all, Result.result_ok}
use Rattle.yasir_ticks.proofs.hex_digits.Decoding.{hex_digits, hex_length}
use Rattle.yasir_ticks.specs.TickText.{byte_items, silence_items, is_plain_decimal}
use Rattle.yasir_ticks.specs.TickText.{is_decimal_digit, number_after}
use Rattle.yasir_ticks.specs.Ticks.{Item, Item.tick}
use Rattle.yasir_ticks.specs.declared.tick.Tick.TheVariants.{Silent, Byte}

and_false : (p q : Bool) → q ≡ false → (p && q) ≡ false
and_false true q h = h
and_false false q h = refl

-- A test that fails at one element fails for the whole list.
pub list_all-bad : (test : ℕ → Bool) (x : List ℕ) (b : ℕ) (l : List ℕ) → test b ≡ false
    → list_all test (x ++ b ∷ l) ≡ false
list_all-bad test [] b l h = rw h refl
list_all-bad test (c ∷ x) b l h = and_false (test c) (list_all test (x ++ b ∷ l))
    (list_all-bad test x b l h)

-- ---- hex digits

-- `byte_items` is `None` for what decodes to no bytes, whatever the number of digits is.
byte_items-none : (x : List ℕ) → ((bytes : List ℕ) → decode_of x ≡ Ok bytes → ⊥)
    → byte_items x ≡ None
byte_items-none x h = by_length (leb 1 (length x) && leb (length x) 64) (decode_of x) h
  where
    by_length : (t : Bool) (r : Result (List ℕ) FromHexError)
        → ((bytes : List ℕ) → r ≡ Ok bytes → ⊥)
        → cond t (option_map (λ bytes. map (λ b. tick (Byte b)) bytes) (result_ok r)) None ≡ None
    by_length true (Ok bytes) h = absurd (h bytes refl)
    by_length true (Err e) h = refl
    by_length false r h = refl

pub byte_items-bad : (x : List ℕ) (b : ℕ) (l : List ℕ) → is_hex_digit b ≡ false
    → byte_items (x ++ b ∷ l) ≡ None
byte_items-bad x b l h =
    byte_items-none (x ++ b ∷ l) (λ bytes e. both_ways (list_all is_hex_digit (x ++ b ∷ l))
    (list_all-bad is_hex_digit x b l h) (hex_digits (x ++ b ∷ l) bytes e))

pub byte_items-odd : (x : List ℕ) → length x % 2 ≡ 1 → byte_items x ≡ None
byte_items-odd x h = byte_items-none x (λ bytes e. cc (sym (decode_of-odd x h) ∙ e))

pub byte_items-long : (x : List ℕ) → 64 < length x → byte_items x ≡ None
byte_items-long x h = rw (too_long (length x) h) refl
  where
    too_long : (n : ℕ) → 64 < n → (leb 1 n && leb n 64) ≡ false
    too_long n h = grind arith

pub byte_items-right : (x bytes : List ℕ) → decode_of x ≡ Ok bytes → 1 ≤ length bytes
    → length bytes ≤ 32
    → byte_items x ≡ Some (map (λ b. tick (Byte b)) bytes)
byte_items-right x bytes e low high =
    rw (within (length x) (length bytes) (hex_length x bytes e) low high, e) refl
  where
    within : (n k : ℕ) → n ≡ 2 * k → 1 ≤ k → k ≤ 32 → (leb 1 n && leb n 64) ≡ true
    within n k e low high = grind arith

-- ---- decimal digits

silence_items-none : (x : List ℕ) → is_plain_decimal x ≡ false → silence_items x ≡ None
silence_items-none x h = rw h refl

pub silence_items-bad : (x : List ℕ) (b : ℕ) (l : List ℕ) → is_decimal_digit b ≡ false
    → silence_items (x ++ b ∷ l) ≡ None
silence_items-bad [] b l h = silence_items-none (b ∷ l)
    (and_false (not (b == 48)) (is_decimal_digit b && list_all is_decimal_digit l) (rw h refl))
silence_items-bad (c ∷ x) b l h = silence_items-none (c ∷ (x ++ b ∷ l))
    (and_false (not (c == 48)) (list_all is_decimal_digit (c ∷ (x ++ b ∷ l)))
    (list_all-bad is_decimal_digit (c ∷ x) b l h))

pub silence_items-zero : (l : List ℕ) → silence_items (48 ∷ l) ≡ None
silence_items-zero l = refl

-- ---- numbers

pub number_after-append : (n : ℕ) (x : List ℕ) (d : ℕ) (l : List ℕ)
    → number_after n (x ++ d ∷ l) ≡ number_after (10 * number_after n x + (d - 48)) l
number_after-append n [] d l = refl
number_after-append n (c ∷ x) d l = number_after-append (10 * n + (c - 48)) x d l

pub number_after-grows : (n : ℕ) (x : List ℕ) → n ≤ number_after n x
number_after-grows n [] = omega arith
number_after-grows n (c ∷ x) = omega (arith, number_after-grows (10 * n + (c - 48)) x)

pub is_plain_decimal-more : (x : List ℕ) (d : ℕ) → is_plain_decimal x ≡ true
    → is_decimal_digit d ≡ true → is_plain_decimal (x ++ d ∷ []) ≡ true
is_plain_decimal-more [] d h g = cc
is_plain_decimal-more (c ∷ x) d h g =
    both (not (c == 48)) (list_all is_decimal_digit (c ∷ x))
    (list_all is_decimal_digit (c ∷ (x ++ d ∷ []))) h
    (λ all. list_all-append is_decimal_digit (c ∷ x) (d ∷ []) ∙ rw (all, g) refl)
  where
    both : (p q r : Bool) → (p && q) ≡ true → (q ≡ true → r ≡ true) → (p && r) ≡ true
    both p q r h f = let parts = and_parts p q h in rw (parts.0, f parts.1) refl

pub silence_items-right : (x : List ℕ) (n : ℕ) → is_plain_decimal x ≡ true → number_after 0 x ≡ n
    → n ≤ 1000000 → silence_items x ≡ Some (replicate n (tick Silent))
silence_items-right x n h e fits = rw (h, e, within n fits) refl
  where
    within : (n : ℕ) → n ≤ 1000000 → leb n 1000000 ≡ true
    within n h = grind arith

pub silence_items-big : (x : List ℕ) → 1000000 < number_after 0 x → silence_items x ≡ None
silence_items-big x h = either_way (is_plain_decimal x) (leb (number_after 0 x) 1000000)
    _ (beyond (number_after 0 x) h)
  where
    beyond : (n : ℕ) → 1000000 < n → leb n 1000000 ≡ false
    beyond n h = grind arith

    either_way : (p q : Bool) (items : Option (List Item)) → q ≡ false
        → cond (p && q) items None ≡ None
    either_way true q items h = rw h refl
    either_way false q items h = refl
