-- Which bytes a line can have, and what follows from this for the causes of its refusals.
use Rattle.capture_text.specs.CaptureText.{point, is_blank, with_point, IsRowTime, ArePairs, IsPair}
use Rattle.capture_text.specs.CaptureText.{fraction_value, stays_in_line, behind_blank}
use Rattle.hex.specs.Hex.{hex_digit_value}
use Rattle.std.proofs.Common.{◌≡◌, ◌∙◌, ℕ, ◌+◌, ◌*◌, ◌-◌, ◌/◌, ◌==◌, ◌||◌, Bool, true, false, List}
use Rattle.std.proofs.Common.{[], ◌∷◌, ◌++◌, Some, None, refl, ap, arith}
use Rattle.std.{proofs.lemmas.Bool.and_parts, specs.List.list_all}
use Rattle.yasir_ticks.specs.TickText.{is_decimal_digit, ends_in_return}

-- whether a byte can be in a time
abbrev pub is_time_byte : ℕ → Bool
is_time_byte b = is_decimal_digit b || b == point

pub all_more : (test : ℕ → Bool) (x : List ℕ) (b : ℕ) → list_all test x ≡ true → test b ≡ true
    → list_all test (x ++ b ∷ []) ≡ true
all_more test [] b h g = rw g refl
all_more test (c ∷ x) b h g =
    let parts = and_parts (test c) (list_all test x) h in
    rw (parts.0, all_more test x b parts.1 g) refl

pub all_both : (test : ℕ → Bool) (x y : List ℕ) → list_all test x ≡ true → list_all test y ≡ true
    → list_all test (x ++ y) ≡ true
all_both test [] y h g = g
all_both test (c ∷ x) y h g =
    let parts = and_parts (test c) (list_all test x) h in
    rw (parts.0, all_both test x y parts.1 g) refl

pub all_weaker : (test other : ℕ → Bool)
    → ((b : ℕ) → test b ≡ true → other b ≡ true) → (x : List ℕ)
    → list_all test x ≡ true → list_all other x ≡ true
all_weaker test other w [] h = refl
all_weaker test other w (c ∷ x) h =
    let parts = and_parts (test c) (list_all test x) h in
    rw (w c parts.0, all_weaker test other w x parts.1) refl

-- ---- which bytes differ from which

pub digit_is_time_byte : (b : ℕ) → is_decimal_digit b ≡ true → is_time_byte b ≡ true
digit_is_time_byte b h = rw h refl

pub time_byte_no_blank : (b : ℕ) → is_time_byte b ≡ true → is_blank b ≡ false
time_byte_no_blank b h = grind arith

pub time_byte_no_return : (b : ℕ) → is_time_byte b ≡ true → (b == 13) ≡ false
time_byte_no_return b h = grind arith

pub digit_stays : (b : ℕ) → is_decimal_digit b ≡ true → stays_in_line b ≡ true
digit_stays b h = grind arith

pub blank_stays : (b : ℕ) → is_blank b ≡ true → stays_in_line b ≡ true
blank_stays b h = grind arith

pub blank_no_return : (b : ℕ) → is_blank b ≡ true → (b == 13) ≡ false
blank_no_return b h = grind arith

pub hex_stays : (b v : ℕ) → hex_digit_value b ≡ Some v → stays_in_line b ≡ true
hex_stays b v h = grind arith

pub hex_no_return : (b v : ℕ) → hex_digit_value b ≡ Some v → (b == 13) ≡ false
hex_no_return b v h = grind arith

pub no_hex_no_digit : (b : ℕ) → hex_digit_value b ≡ None → is_decimal_digit b ≡ false
no_hex_no_digit b h = grind arith

-- ---- a line that ends in no CR

pub ends_in_return-more : (x : List ℕ) (b : ℕ) → ends_in_return (x ++ b ∷ []) ≡ (b == 13)
ends_in_return-more [] b = refl
ends_in_return-more (c ∷ []) b = refl
ends_in_return-more (c ∷ d ∷ x) b = ends_in_return-more (d ∷ x) b

pub ends_in_return-none : (test : ℕ → Bool) → ((b : ℕ) → test b ≡ true → (b == 13) ≡ false)
    → (x : List ℕ) → list_all test x ≡ true → ends_in_return x ≡ false
ends_in_return-none test apart [] h = refl
ends_in_return-none test apart (c ∷ []) h =
    apart c (and_parts (test c) true h).0
ends_in_return-none test apart (c ∷ d ∷ x) h =
    ends_in_return-none test apart (d ∷ x) (and_parts (test c) (list_all test (d ∷ x)) h).1

-- ---- what comes after a blank

pub behind_blank-none : (x : List ℕ) → list_all is_time_byte x ≡ true → behind_blank x ≡ []
behind_blank-none [] h = refl
behind_blank-none (c ∷ x) h =
    let parts = and_parts (is_time_byte c) (list_all is_time_byte x) h in
    rw (time_byte_no_blank c parts.0) (behind_blank-none x parts.1)

pub behind_blank-some : (x : List ℕ) (blank : ℕ) (y : List ℕ) → list_all is_time_byte x ≡ true
    → is_blank blank ≡ true → behind_blank (x ++ blank ∷ y) ≡ y
behind_blank-some [] blank y h g = rw g refl
behind_blank-some (c ∷ x) blank y h g =
    let parts = and_parts (is_time_byte c) (list_all is_time_byte x) h in
    rw (time_byte_no_blank c parts.0) (behind_blank-some x blank y parts.1 g)

-- ---- times

pub fraction_bytes : (fraction : List ℕ) → list_all is_decimal_digit fraction ≡ true
    → list_all is_time_byte (with_point fraction) ≡ true
fraction_bytes [] h = refl
fraction_bytes (d ∷ fraction) h =
    all_weaker is_decimal_digit is_time_byte digit_is_time_byte (d ∷ fraction) h

pub time_bytes : (text : List ℕ) (time : ℕ) → IsRowTime text time → list_all is_time_byte text ≡ true
time_bytes text time t =
    ap (list_all is_time_byte) t.is
    ∙ all_both is_time_byte t.whole (with_point t.fraction)
    (all_weaker is_decimal_digit is_time_byte digit_is_time_byte t.whole t.digits)
    (fraction_bytes t.fraction t.fraction_digits)

-- what the digit after these digits counts, in nanoseconds, if the first of them counts `counts`
abbrev pub counts_after : ℕ → List ℕ → ℕ
counts_after counts [] = counts
counts_after counts (d ∷ digits) = counts_after (counts / 10) digits

pub fraction_value-more : (counts : ℕ) (x : List ℕ) (d : ℕ)
    → fraction_value counts (x ++ d ∷ []) ≡ fraction_value counts x + (d - 48) * counts_after counts
    x
fraction_value-more counts [] d = omega arith
fraction_value-more counts (c ∷ x) d =
    ap (λ n. (c - 48) * counts + n) (fraction_value-more (counts / 10) x d)
    ∙ omega arith

pub counts_after-more : (counts : ℕ) (x : List ℕ) (d : ℕ)
    → counts_after counts (x ++ d ∷ []) ≡ counts_after counts x / 10
counts_after-more counts [] d = refl
counts_after-more counts (c ∷ x) d = counts_after-more (counts / 10) x d

-- ---- pairs

pub pairs_more : (digits bytes : List ℕ) (high low byte : ℕ) → ArePairs digits bytes
    → IsPair high low byte → ArePairs (digits ++ high ∷ low ∷ []) (bytes ++ byte ∷ [])
pairs_more [] [] high low byte h g = (g, tt)
pairs_more [] (b ∷ bytes) high low byte h g = absurd h
pairs_more (d ∷ []) bytes high low byte h g = absurd h
pairs_more (d ∷ e ∷ digits) [] high low byte h g = absurd h
pairs_more (d ∷ e ∷ digits) (b ∷ bytes) high low byte h g =
    (h.0, pairs_more digits bytes high low byte h.1 g)
