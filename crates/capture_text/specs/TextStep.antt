-- What one byte of a text capture does at each place of its line. It describes the format of
-- CaptureText.antt a second time, and the two are proved equal.
use Rattle.std.specs.Prelude.{◌≡◌, ℕ, ◌+◌, ◌*◌, ◌-◌, ◌/◌, ◌^◌, ◌==◌, nat_lt, Bool, true, false}
use Rattle.std.specs.Prelude.{if◌then◌else◌, Option, Some, None, Result, Ok, Err}
use Rattle.hex.specs.Hex.{hex_digit_value}
use Rattle.yasir_ticks.specs.Characters.{number_sign, line_feed, carriage_return, digit_zero}
use Rattle.yasir_ticks.specs.TickText.{is_decimal_digit}
use Rattle.line_stamps.specs.declared.capture.CaptureByte.{CaptureByte}
use Rattle.capture_text.specs.CaptureText.{point, is_blank, ends_line, capture_byte}
use Rattle.capture_text.specs.declared.fault.TextFault.{TextFault}
use Rattle.capture_text.specs.declared.fault.TextFault.TheVariants.{Char, Late, Odd, Empty}
use Rattle.capture_text.specs.declared.place.Place.{Place}
use Rattle.capture_text.specs.declared.place.Place.TheVariants.{Start, Comment, Whole, Point}
use Rattle.capture_text.specs.declared.place.Place.TheVariants.{Fraction, Blank, Pairs, Half}
use Rattle.capture_text.specs.declared.place.Place.TheVariants.{Returned}

abbrev pub Stepped : Type 0
Stepped = Result (Place × Option CaptureByte) TextFault

-- a time, if it is below 2^64
abbrev pub fitting : ℕ → Option ℕ
fitting time = if nat_lt time (2 ^ 64) then Some time else None

-- a time of whole seconds with one more digit, if it is below 2^64
abbrev pub whole_time : ℕ → ℕ → Option ℕ
whole_time time digit = fitting (10 * time + (digit - digit_zero) * 1000000000)

-- a time with one more digit after its point, which counts `counts` nanoseconds, if it is below
-- 2^64
abbrev pub fraction_time : ℕ → ℕ → ℕ → Option ℕ
fraction_time time counts digit = fitting (time + (digit - digit_zero) * counts)

abbrev pub fault_without_bytes : ℕ → TextFault
fault_without_bytes b = if ends_line b then Empty else Char

abbrev pub fault_in_pair : ℕ → TextFault
fault_in_pair b = if ends_line b then Odd else Char

abbrev pub after_line : ℕ → Stepped
after_line b =
    if b == line_feed then Ok (Start, None)
    else if b == carriage_return then Ok (Returned, None)
    else Err Char

abbrev pub after_time : ℕ → ℕ → Stepped
after_time time b = if is_blank b then Ok (Blank time, None) else Err (fault_without_bytes b)

abbrev pub to_whole : Option ℕ → Stepped
to_whole (Some time) = Ok (Whole time, None)
to_whole None = Err Late

abbrev pub to_fraction : ℕ → Option ℕ → Stepped
to_fraction counts (Some time) = Ok (Fraction time (counts / 10), None)
to_fraction counts None = Err Late

abbrev pub after_fraction : ℕ → ℕ → ℕ → Stepped
after_fraction time counts b = to_fraction counts (fraction_time time counts b)

-- what the first digit of a pair does, or `other` if the byte isn't a hex digit
abbrev pub to_half : ℕ → Bool → Option ℕ → Stepped → Stepped
to_half time first (Some high) other = Ok (Half time first high, None)
to_half time first None other = other

-- what the second digit of a pair does, or `other` if the byte isn't a hex digit
abbrev pub to_pairs : ℕ → Bool → ℕ → Option ℕ → Stepped → Stepped
to_pairs time first high (Some low) other =
    Ok (Pairs time, Some (capture_byte time first (high * 16 + low)))
to_pairs time first high None other = other

unfoldable pub text_step_at : Place → ℕ → Stepped
text_step_at Start b =
    if b == number_sign then Ok (Comment, None)
    else if is_decimal_digit b then Ok (Whole ((b - digit_zero) * 1000000000), None)
    else after_line b
text_step_at Comment b = if b == line_feed then Ok (Start, None) else Ok (Comment, None)
text_step_at (Whole time) b =
    if is_decimal_digit b then to_whole (whole_time time b)
    else if b == point then Ok (Point time, None)
    else after_time time b
text_step_at (Point time) b =
    if is_decimal_digit b then after_fraction time 100000000 b else Err (fault_without_bytes b)
text_step_at (Fraction time counts) b =
    if is_decimal_digit b then after_fraction time counts b else after_time time b
text_step_at (Blank time) b = to_half time true (hex_digit_value b) (Err (fault_without_bytes b))
text_step_at (Pairs time) b = to_half time false (hex_digit_value b) (after_line b)
text_step_at (Half time first high) b =
    to_pairs time first high (hex_digit_value b) (Err (fault_in_pair b))
text_step_at Returned b = if b == line_feed then Ok (Start, None) else Err Char

-- whether a line may end at a place
abbrev pub text_may_end : Place → Bool
text_may_end Start = true
text_may_end Comment = true
text_may_end (Whole time) = false
text_may_end (Point time) = false
text_may_end (Fraction time counts) = false
text_may_end (Blank time) = false
text_may_end (Pairs time) = true
text_may_end (Half time first high) = false
text_may_end Returned = true

-- why a text that ends at a place is refused, or `None` if it isn't
abbrev pub end_fault_at : Place → Option TextFault
end_fault_at Start = None
end_fault_at Comment = None
end_fault_at (Whole time) = Some Empty
end_fault_at (Point time) = Some Empty
end_fault_at (Fraction time counts) = Some Empty
end_fault_at (Blank time) = Some Empty
end_fault_at (Pairs time) = None
end_fault_at (Half time first high) = Some Odd
end_fault_at Returned = None

-- whether the digit that a place holds, if any, is below 16
abbrev pub is_sound_text : Place → Bool
is_sound_text (Half time first high) = nat_lt high 16
is_sound_text Start = true
is_sound_text Comment = true
is_sound_text (Whole time) = true
is_sound_text (Point time) = true
is_sound_text (Fraction time counts) = true
is_sound_text (Blank time) = true
is_sound_text (Pairs time) = true
is_sound_text Returned = true

abbrev pub IsSoundTextStep : Stepped → Type 0
IsSoundTextStep (Ok next) = is_sound_text next.0 ≡ true
IsSoundTextStep (Err why) = Unit {0}
