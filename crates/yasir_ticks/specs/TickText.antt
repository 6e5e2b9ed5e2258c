-- Tick text: a recorded line as text, in which one line of text is a run of bytes, a run of
-- silence, or a mark. The format is this project's own; docs/TICK_TEXT.md has it in full.
use Rattle.std.specs.Prelude.{◌≡◌, ℕ, ◌+◌, ◌*◌, ◌-◌, ◌==◌, ◌&&◌, ◌||◌, ◌%◌, nat_le, suc, Bool, true}
use Rattle.std.specs.Prelude.{false, not, if◌then◌else◌, List, [], ◌∷◌, ◌++◌, length, map}
use Rattle.std.specs.Prelude.{replicate, Option, Some, None, is_some, unwrap_or, option_map}
use Rattle.std.specs.Prelude.{option_and_then}
use Rattle.std.specs.List.{flat_map, list_all}
use Rattle.std.specs.Option.{option_map_or}
use Rattle.std.specs.Result.{result_ok}
use Rattle.hex.specs.Hex.{decode_of, is_hex_digit}
use Rattle.yasir_ticks.specs.Characters.{plus_sign, minus_sign, percent_sign, number_sign}
use Rattle.yasir_ticks.specs.Characters.{carriage_return, line_feed, digit_zero, digit_nine}
use Rattle.yasir_ticks.specs.Ticks.{Item, marks_in}
use Rattle.yasir_ticks.specs.Ticks.Item.{tick, mark}
use Rattle.yasir_ticks.specs.declared.fault.TickFault.{TickFault}
use Rattle.yasir_ticks.specs.declared.fault.TickFault.TheVariants.{Char, Odd, Long, Count, Empty}
use Rattle.yasir_ticks.specs.declared.fault.TickFault.TheVariants.{Mark}
use Rattle.yasir_ticks.specs.declared.tick.Tick.TheVariants.{Silent, Byte}

-- A text cut at each LF: the lines that an LF ended, and the last line, which may be empty.
pub record Lines : Type 0 where
  pub ended : List (List ℕ)
  pub last : List ℕ

-- these lines, with a byte other than LF put before them
abbrev pub with_front : ℕ → List (List ℕ) → List ℕ → Lines
with_front b [] last = record { ended = []; last = b ∷ last }
with_front b (l ∷ ls) last = record { ended = (b ∷ l) ∷ ls; last = last }

unfoldable pub lines_of : List ℕ → Lines
lines_of [] = record { ended = []; last = [] }
lines_of (b ∷ x) =
    if b == line_feed
    then record { ended = [] ∷ (lines_of x).ended; last = (lines_of x).last }
    else with_front b (lines_of x).ended (lines_of x).last

-- what a `+` line represents: 1 to 32 pairs of hex digits of either case, that many bytes
abbrev pub byte_items : List ℕ → Option (List Item)
byte_items digits =
    if nat_le 1 (length digits) && nat_le (length digits) 64
    then option_map (λ bytes. map (λ b. tick (Byte b)) bytes) (result_ok (decode_of digits))
    else None

-- the number that these decimal digits spell when they follow those of n
abbrev pub number_after : ℕ → List ℕ → ℕ
number_after n [] = n
number_after n (d ∷ digits) = number_after (10 * n + (d - digit_zero)) digits

abbrev pub is_decimal_digit : ℕ → Bool
is_decimal_digit c = nat_le digit_zero c && nat_le c digit_nine

-- whether these are only digits, at least one, and the first isn't 0
abbrev pub is_plain_decimal : List ℕ → Bool
is_plain_decimal [] = false
is_plain_decimal (d ∷ digits) = not (d == digit_zero) && list_all is_decimal_digit (d ∷ digits)

-- what a `-` line represents: a decimal number from 1 to 1000000 without a leading zero, that many
-- silent ticks
abbrev pub silence_items : List ℕ → Option (List Item)
silence_items digits =
    if is_plain_decimal digits && nat_le (number_after 0 digits) 1000000
    then Some (replicate (number_after 0 digits) (tick Silent))
    else None

-- what the content of a line that is no comment represents; `None` if it has no right form
abbrev pub content_items : List ℕ → Option (List Item)
content_items [] = Some []
content_items (c ∷ x) =
    if c == plus_sign then byte_items x
    else if c == minus_sign then silence_items x
    else if c == percent_sign then (if length x == 0 then Some (mark ∷ []) else None)
    else None

-- a line without the CR that may come as its last byte
abbrev pub without_return : List ℕ → List ℕ
without_return [] = []
without_return (c ∷ []) = if c == carriage_return then [] else c ∷ []
without_return (c ∷ d ∷ x) = c ∷ without_return (d ∷ x)

-- what a line represents; `#` and at most 120 bytes are a comment, in which a CR is a byte like any
-- other
unfoldable pub line_items : List ℕ → Option (List Item)
line_items [] = Some []
line_items (c ∷ x) =
    if c == number_sign
    then (if nat_le (length x) 120 then Some [] else None)
    else content_items (without_return (c ∷ x))

-- what these lines represent; `None` if one of them has no right form
abbrev pub all_items : List (List ℕ) → Option (List Item)
all_items [] = Some []
all_items (l ∷ ls) = option_and_then (λ items. option_map (λ more. items ++ more) (all_items ls))
    (line_items l)

-- Holds if the text represents these items, exactly `marks` of which are marks.
pub record IsTickText (marks : ℕ) (text : List ℕ) (items : List Item) : Type 0 where
  pub lines : all_items ((lines_of text).ended ++ (lines_of text).last ∷ []) ≡ Some items
  pub marked : marks_in items ≡ marks

-- Holds if the text is the beginning of a right text with `marks` marks.
abbrev pub BeginsTickText : ℕ → List ℕ → Type 0
BeginsTickText marks text = (more : List ℕ) × (items : List Item)
    × IsTickText marks (text ++ more) items

-- Holds if the refused place of a text comes after `before` and this byte: they are the shortest
-- beginning of the text with which no right text begins.
pub record IsRefusedAfter (marks : ℕ) (before : List ℕ) (byte : ℕ) : Type 0 where
  pub begins : BeginsTickText marks before
  pub refused : ¬ BeginsTickText marks (before ++ byte ∷ [])

-- what the lines that an LF ended represent, if each of them has a right form
abbrev pub ended_items : List ℕ → List Item
ended_items text = flat_map (λ l. unwrap_or (line_items l) []) (lines_of text).ended

-- the line, counted from 1, of the byte after this text, or of its end
abbrev pub line_after : List ℕ → ℕ
line_after text = suc (length (lines_of text).ended)

-- whether a byte, or the end of the text, ends the content of a line
abbrev pub ends_content : Option ℕ → Bool
ends_content None = true
ends_content (Some b) = b == line_feed || b == carriage_return

-- Why a byte, or the end of the text, is refused after a beginning of its line that isn't refused.
abbrev pub fault_in_bytes : List ℕ → Option ℕ → TickFault
fault_in_bytes digits next =
    if ends_content next && length digits == 0 then Empty
    else if ends_content next && length digits % 2 == 1 then Odd
    else if option_map_or is_hex_digit next false && length digits == 64 then Long
    else Char

abbrev pub fault_in_silence : List ℕ → Option ℕ → TickFault
fault_in_silence digits next =
    if ends_content next && length digits == 0 then Empty
    else if option_map_or is_decimal_digit next false then Count
    else Char

abbrev pub ends_in_return : List ℕ → Bool
ends_in_return [] = false
ends_in_return (c ∷ []) = c == carriage_return
ends_in_return (c ∷ d ∷ x) = ends_in_return (d ∷ x)

abbrev pub fault_in_line : List ℕ → Option ℕ → TickFault
fault_in_line [] next = Char
fault_in_line (c ∷ x) next =
    if c == number_sign then Long
    else if ends_in_return (c ∷ x) then Char
    else if c == plus_sign then fault_in_bytes x next
    else if c == minus_sign then fault_in_silence x next
    else Char

-- why the byte after this text is refused
abbrev pub fault_after : List ℕ → ℕ → TickFault
fault_after text byte = fault_in_line (lines_of text).last (Some byte)

-- why the end of this text is refused
abbrev pub fault_at_end : List ℕ → TickFault
fault_at_end text =
    if is_some (line_items (lines_of text).last) then Mark
    else fault_in_line (lines_of text).last None
