-- What holds for the parts of a reader at each place of a line.
use Rattle.std.specs.Prelude.{ℕ, ◌&&◌, nat_lt, Bool, true, false, not, List, length, Option, Some}
use Rattle.std.specs.Prelude.{None, ◌==◌, ◌||◌}
use Rattle.hex.specs.Hex.{is_hex_digit}
use Rattle.yasir_ticks.specs.TickText.{is_decimal_digit}
use Rattle.yasir_ticks.specs.Characters.{plus_sign, minus_sign, percent_sign}
use Rattle.yasir_ticks.specs.Characters.{number_sign}
use Rattle.yasir_ticks.specs.declared.place.Content.{Content}
use Rattle.yasir_ticks.specs.declared.place.Content.TheVariants.{NoTick, KeptBytes, SilentTicks}
use Rattle.yasir_ticks.specs.declared.place.Content.TheVariants.{OneMark}
use Rattle.yasir_ticks.specs.declared.place.Place.{Place}
use Rattle.yasir_ticks.specs.declared.place.Place.TheVariants.{Start, Comment, Pairs, HalfPair}
use Rattle.yasir_ticks.specs.declared.place.Place.TheVariants.{Minus, Number, Percent, Returned}
use Rattle.yasir_ticks.specs.declared.place.Place.TheVariants.{Refused}

-- whether a content has at least one tick, or is a mark, or is that of a line without ticks
abbrev pub has_ticks : Content → List ℕ → Bool
has_ticks NoTick bytes = true
has_ticks KeptBytes bytes = nat_lt 0 (length bytes)
has_ticks (SilentTicks n) bytes = nat_lt 0 n
has_ticks OneMark bytes = true

abbrev pub ended_has_ticks : Option Content → List ℕ → Bool
ended_has_ticks None bytes = true
ended_has_ticks (Some content) bytes = has_ticks content bytes

-- Whether the parts of a reader fit its place. Between the two digits of a pair, `high` is the
-- value of a digit, and there is room for the byte. A number of silent ticks isn't 0. What comes
-- before a CR has ticks, or is a mark, or is the content of a line without ticks.
abbrev pub is_sound : Place → List ℕ → Bool
is_sound (HalfPair high) bytes = nat_lt high 16 && nat_lt (length bytes) 32
is_sound (Number n) bytes = nat_lt 0 n
is_sound (Returned content) bytes = has_ticks content bytes
is_sound Start bytes = true
is_sound (Comment n) bytes = true
is_sound Pairs bytes = true
is_sound Minus bytes = true
is_sound Percent bytes = true
is_sound (Refused why) bytes = true

-- whether a byte is no part of a content that goes on here; it is never foreign in a comment, after
-- a content or after a refusal
abbrev pub is_foreign : Place → ℕ → Bool
is_foreign Start b =
    not (b == number_sign || b == plus_sign || b == minus_sign || b == percent_sign)
is_foreign Pairs b = not (is_hex_digit b)
is_foreign (HalfPair high) b = not (is_hex_digit b)
is_foreign Minus b = not (is_decimal_digit b)
is_foreign (Number n) b = not (is_decimal_digit b)
is_foreign Percent b = true
is_foreign (Comment n) b = false
is_foreign (Returned content) b = false
is_foreign (Refused why) b = false
