-- A text capture: each record is a line with a time in seconds, a blank, and the bytes of the
-- record in pairs of hex digits of either case, such as `1690000000.000123456 010300000002`. The
-- time is that of the record's first byte. The format is this project's own. `tshark -T fields`
-- writes it from the time and a field of bytes.
use Rattle.std.specs.Prelude.{◌≡◌, ℕ, ◌+◌, ◌*◌, ◌-◌, ◌/◌, ◌<◌, ◌^◌, ◌==◌, ◌||◌, Bool, true, not}
use Rattle.std.specs.Prelude.{false, List, [], ◌∷◌, ◌++◌, length, map, Option, Some, nat_lt}
use Rattle.std.specs.Prelude.{if◌then◌else◌}
use Rattle.std.specs.List.{list_all}
use Rattle.std.specs.Option.{option_map_or}
use Rattle.hex.specs.Hex.{hex_digit_value}
use Rattle.yasir_ticks.specs.Characters.{number_sign, line_feed, carriage_return, digit_zero}
use Rattle.yasir_ticks.specs.TickText.{is_decimal_digit, number_after, ends_in_return}
use Rattle.yasir_ticks.specs.TickText.{ends_content}
use Rattle.line_stamps.specs.declared.capture.CaptureByte.{CaptureByte}
use Rattle.line_stamps.specs.declared.capture.Way.TheVariants.{A}
use Rattle.capture_text.specs.declared.fault.TextFault.{TextFault}
use Rattle.capture_text.specs.declared.fault.TextFault.TheVariants.{Char, Late, Odd, Empty}

-- `.`
abbrev pub point : ℕ
point = 46

-- a space or a tab
abbrev pub is_blank : ℕ → Bool
is_blank b = b == 32 || b == 9

-- LF or CR
abbrev pub ends_line : ℕ → Bool
ends_line b = b == line_feed || b == carriage_return

-- the row_nanoseconds of digits after a point: the first counts `counts`, and each later one a tenth of
-- the one before it, so the tenth digit after the point and those that follow it count nothing
abbrev pub fraction_value : ℕ → List ℕ → ℕ
fraction_value counts [] = 0
fraction_value counts (d ∷ digits) =
    (d - digit_zero) * counts + fraction_value (counts / 10) digits

-- the row_nanoseconds of a time with these digits before and after the point
abbrev pub row_nanoseconds : List ℕ → List ℕ → ℕ
row_nanoseconds whole fraction =
    1000000000 * number_after 0 whole + fraction_value 100000000 fraction

-- a point and the digits after it, or nothing if there are none
abbrev pub with_point : List ℕ → List ℕ
with_point [] = []
with_point (d ∷ digits) = point ∷ d ∷ digits

-- A time: digits of whole seconds, at least one, and maybe a point and digits after it. It is below
-- 2^64 row_nanoseconds.
pub record IsRowTime (text : List ℕ) (time : ℕ) : Type 0 where
  pub whole : List ℕ
  pub fraction : List ℕ
  pub is : text ≡ whole ++ with_point fraction
  pub some : 0 < length whole
  pub digits : list_all is_decimal_digit whole ≡ true
  pub fraction_digits : list_all is_decimal_digit fraction ≡ true
  pub value : time ≡ row_nanoseconds whole fraction
  pub fits : time < 2 ^ 64

-- the byte of a pair of hex digits
pub record IsPair (high low byte : ℕ) : Type 0 where
  pub first : ℕ
  pub second : ℕ
  pub high_is : hex_digit_value high ≡ Some first
  pub low_is : hex_digit_value low ≡ Some second
  pub byte_is : byte ≡ first * 16 + second

-- pairs of hex digits, and their bytes
abbrev pub ArePairs : List ℕ → List ℕ → Type 0
ArePairs [] [] = Unit {0}
ArePairs [] (byte ∷ bytes) = ⊥
ArePairs (high ∷ []) bytes = ⊥
ArePairs (high ∷ low ∷ digits) [] = ⊥
ArePairs (high ∷ low ∷ digits) (byte ∷ bytes) = IsPair high low byte × ArePairs digits bytes

-- a byte of a record with this time, on way A, since a text capture has only one way
abbrev pub capture_byte : ℕ → Bool → ℕ → CaptureByte
capture_byte time first byte = record { way = A; start = time; first = first; byte = byte }

-- the bytes of a record with this time
abbrev pub recorded : ℕ → List ℕ → List CaptureByte
recorded time [] = []
recorded time (byte ∷ bytes) =
    capture_byte time true byte ∷ map (capture_byte time false) bytes

-- A record with this time: the time, a blank and pairs of hex digits, at least one.
pub record IsRowRecord (line : List ℕ) (time : ℕ) (items : List CaptureByte) : Type 0 where
  pub seconds : List ℕ
  pub blank : ℕ
  pub digits : List ℕ
  pub bytes : List ℕ
  pub is : line ≡ seconds ++ blank ∷ digits
  pub stamped : IsRowTime seconds time
  pub apart : is_blank blank ≡ true
  pub pairs : ArePairs digits bytes
  pub some : 0 < length bytes
  pub items_are : items ≡ recorded time bytes

-- a byte other than LF
abbrev pub stays_in_line : ℕ → Bool
stays_in_line b = not (b == line_feed)

-- a comment: `#` and what follows it on its line
pub record IsRowComment (line : List ℕ) : Type 0 where
  pub after : List ℕ
  pub is : line ≡ number_sign ∷ after
  pub one_line : list_all stays_in_line after ≡ true

-- What a line has before its end: nothing, a comment or a record.
pub data IsContent : List ℕ → List CaptureByte → Type 0 where
  nothing : IsContent [] []
  comment : (content : List ℕ) → IsRowComment content → IsContent content []
  stamped : (content : List ℕ) (time : ℕ) (items : List CaptureByte)
      → IsRowRecord content time items → IsContent content items

-- A line without its LF: its content, which a CR may follow.
pub data IsLine : List ℕ → List CaptureByte → Type 0 where
  plain : (content : List ℕ) (items : List CaptureByte) → IsContent content items
      → IsLine content items
  returned : (content : List ℕ) (items : List CaptureByte) → IsContent content items
      → IsLine (content ++ carriage_return ∷ []) items

-- Lines one after the other, each of which an LF ends.
pub data AreLines : List ℕ → List CaptureByte → Type 0 where
  none : AreLines [] []
  more : (text line : List ℕ) (items others : List CaptureByte) → AreLines text items
      → IsLine line others → AreLines (text ++ (line ++ line_feed ∷ [])) (items ++ others)

-- A text capture of these bytes: lines that an LF ends, and a last line without an LF, which may be
-- empty.
pub record IsTextCapture (text : List ℕ) (items : List CaptureByte) : Type 0 where
  pub ended : List ℕ
  pub last : List ℕ
  pub items_before : List CaptureByte
  pub items_last : List CaptureByte
  pub text_is : text ≡ ended ++ last
  pub items_are : items ≡ items_before ++ items_last
  pub lines : AreLines ended items_before
  pub last_line : IsLine last items_last

-- what follows the first blank of a line, or nothing if it has none
abbrev pub behind_blank : List ℕ → List ℕ
behind_blank [] = []
behind_blank (b ∷ line) = if is_blank b then line else behind_blank line

-- Why a byte, or the end of the text, is refused after this beginning of its line: a decimal digit
-- because of the time that it makes, and an end of the line because a digit of a pair or all bytes
-- of the record are missing.
abbrev pub row_fault_in : List ℕ → Option ℕ → TextFault
row_fault_in line next =
    if ends_in_return line then Char
    else if option_map_or is_decimal_digit next false then Late
    else if ends_content next
    then (if nat_lt 0 (length (behind_blank line)) then Odd else Empty)
    else Char

-- A byte, or the end of the text, is refused after this text for this cause.
pub record IsRowCause (text : List ℕ) (next : Option ℕ) (why : TextFault) : Type 0 where
  pub ended : List ℕ
  pub line : List ℕ
  pub items : List CaptureByte
  pub text_is : text ≡ ended ++ line
  pub lines : AreLines ended items
  pub one_line : list_all stays_in_line line ≡ true
  pub why_is : why ≡ row_fault_in line next

-- how many lines of a text an LF ends
abbrev pub lines_ended : List ℕ → ℕ
lines_ended [] = 0
lines_ended (b ∷ text) = (if b == line_feed then 1 else 0) + lines_ended text
