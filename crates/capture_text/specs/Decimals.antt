-- Numbers in decimal digits, and times of whole nanoseconds.
use Rattle.std.specs.Prelude.{ℕ, ◌+◌, ◌*◌, ◌-◌, ◌/◌, ◌^◌, ◌==◌, nat_lt, if◌then◌else◌, List, []}
use Rattle.std.specs.Prelude.{◌∷◌, length, take, drop, Option, Some, None}
use Rattle.yasir_ticks.specs.Characters.{digit_zero}
use Rattle.yasir_ticks.specs.TickText.{is_decimal_digit}
use Rattle.capture_text.specs.Parts.{place_of_part}

-- a number, if it is below 2^64
abbrev pub fitting : ℕ → Option ℕ
fitting n = if nat_lt n (2 ^ 64) then Some n else None

abbrev pub with_digit : ℕ → ℕ → Option ℕ
with_digit value digit = fitting (value * 10 + (digit - digit_zero))

abbrev pub with_fraction : ℕ → ℕ → ℕ → Option ℕ
with_fraction time counts digit = fitting (time + (digit - digit_zero) * counts)

abbrev pub and_then : Option ℕ → (ℕ → Option ℕ) → Option ℕ
and_then (Some n) next = next n
and_then None next = None

-- the number that a value and the digits after it make
unfoldable pub number_from : ℕ → List ℕ → Option ℕ
number_from value [] = Some value
number_from value (digit ∷ digits) =
    if is_decimal_digit digit
    then and_then (with_digit value digit) (λ longer. number_from longer digits)
    else None

-- A time with the digits after its point: the first counts `counts` nanoseconds, and each later one
-- a tenth of the one before it. Digits that would count less than one nanosecond count nothing.
unfoldable pub fraction_from : ℕ → ℕ → List ℕ → Option ℕ
fraction_from time counts [] = Some time
fraction_from time counts (digit ∷ digits) =
    if is_decimal_digit digit
    then and_then (with_fraction time counts digit) (λ longer. fraction_from longer (counts / 10) digits)
    else None

-- the nanoseconds of a whole number of units, each of `unit` nanoseconds
abbrev pub whole_at : ℕ → List ℕ → Option ℕ
whole_at unit digits =
    if length digits == 0 then None
    else and_then (number_from 0 digits) (λ n. fitting (n * unit))

abbrev pub by_point : ℕ → List ℕ → Option ℕ → Option ℕ
by_point unit text None = whole_at unit text
by_point unit text (Some k) = and_then (whole_at unit (take k text)) (λ time.
    if k + 1 == length text then None else fraction_from time (unit / 10) (drop (k + 1) text))

-- A time in nanoseconds, from a text that has it in units of `unit` nanoseconds: digits, and maybe
-- a point and digits after it.
abbrev pub time_at : ℕ → List ℕ → Option ℕ
time_at unit text = by_point unit text (place_of_part 46 text)
