-- What a reader of tick text represents: a text with a number of marks, up to some place of its
-- last line.
use Rattle.std.specs.Prelude.{◌≡◌, ℕ, ◌+◌, ◌≤◌, ◌<◌, ◌==◌, Bool, true, false, List, [], ◌∷◌, ◌++◌}
use Rattle.std.specs.Prelude.{length, map, replicate, Some, Ok}
use Rattle.hex.specs.Hex.{decode_of, hex_digit_value}
use Rattle.yasir_ticks.specs.Characters.{plus_sign, minus_sign, percent_sign, number_sign}
use Rattle.yasir_ticks.specs.Characters.{carriage_return}
use Rattle.yasir_ticks.specs.Ticks.{Item, marks_in}
use Rattle.yasir_ticks.specs.Ticks.Item.{tick, mark}
use Rattle.yasir_ticks.specs.TickText.{lines_of, all_items, ended_items, line_after, content_items}
use Rattle.yasir_ticks.specs.TickText.{is_plain_decimal, number_after}
use Rattle.yasir_ticks.specs.declared.fault.BadTicks.{BadTicks}
use Rattle.yasir_ticks.specs.declared.tick.Tick.TheVariants.{Silent, Byte}
use Rattle.yasir_ticks.specs.declared.place.Content.{Content}
use Rattle.yasir_ticks.specs.declared.place.Content.TheVariants.{NoTick, KeptBytes, SilentTicks}
use Rattle.yasir_ticks.specs.declared.place.Content.TheVariants.{OneMark}
use Rattle.yasir_ticks.specs.declared.place.Place.{Place}
use Rattle.yasir_ticks.specs.declared.place.Place.TheVariants.{Start, Comment, Pairs, HalfPair}
use Rattle.yasir_ticks.specs.declared.place.Place.TheVariants.{Minus, Number, Percent, Returned}
use Rattle.yasir_ticks.specs.declared.place.Place.TheVariants.{Refused}
use Rattle.yasir_ticks.specs.declared.reader.TickReader.{TickReader}

-- what a line with this content represents, if `bytes` are those of a `+` line
abbrev pub items_of_content : Content → List ℕ → List Item
items_of_content NoTick bytes = []
items_of_content KeptBytes bytes = map (λ b. tick (Byte b)) bytes
items_of_content (SilentTicks n) bytes = replicate n (tick Silent)
items_of_content OneMark bytes = mark ∷ []

abbrev pub marks_of_content : Content → ℕ
marks_of_content NoTick = 0
marks_of_content KeptBytes = 0
marks_of_content (SilentTicks n) = 0
marks_of_content OneMark = 1

-- how many marks the line so far represents at this place: one after `%`
abbrev pub marks_at : Place → ℕ
marks_at Start = 0
marks_at (Comment n) = 0
marks_at Pairs = 0
marks_at (HalfPair high) = 0
marks_at Minus = 0
marks_at (Number n) = 0
marks_at Percent = 1
marks_at (Returned content) = marks_of_content content
marks_at (Refused why) = 0

abbrev pub starts_comment : List ℕ → Bool
starts_comment [] = false
starts_comment (c ∷ x) = c == number_sign

-- Holds if the line is `#` and n bytes, at most 120.
pub record IsComment (n : ℕ) (line : List ℕ) : Type 0 where
  pub after : List ℕ
  pub is : line ≡ number_sign ∷ after
  pub long : length after ≡ n
  pub fits : n ≤ 120

-- Holds if the line is `+` and the digits of these bytes, at most 32.
pub record HasPairs (bytes line : List ℕ) : Type 0 where
  pub digits : List ℕ
  pub is : line ≡ plus_sign ∷ digits
  pub decoded : decode_of digits ≡ Ok bytes
  pub fits : length bytes ≤ 32

-- Holds if the line is `+`, the digits of these bytes, at most 31, and one more digit, whose value
-- is `high`.
pub record HasHalfPair (high : ℕ) (bytes line : List ℕ) : Type 0 where
  pub digits : List ℕ
  pub digit : ℕ
  pub is : line ≡ plus_sign ∷ (digits ++ digit ∷ [])
  pub decoded : decode_of digits ≡ Ok bytes
  pub value : hex_digit_value digit ≡ Some high
  pub fits : length bytes < 32

-- Holds if the line is `-` and the digits of n, at most 1000000.
pub record HasNumber (n : ℕ) (line : List ℕ) : Type 0 where
  pub digits : List ℕ
  pub is : line ≡ minus_sign ∷ digits
  pub plain : is_plain_decimal digits ≡ true
  pub number : number_after 0 digits ≡ n
  pub fits : n ≤ 1000000

-- Holds if the line is a content, and then a CR.
pub record IsReturned (content : Content) (bytes line : List ℕ) : Type 0 where
  pub before : List ℕ
  pub is : line ≡ before ++ carriage_return ∷ []
  pub apart : starts_comment before ≡ false
  pub stands : content_items before ≡ Some (items_of_content content bytes)

-- Holds if the line so far brings a reader to this place, with these bytes kept.
abbrev pub Reads : Place → List ℕ → List ℕ → Type 0
Reads Start bytes line = line ≡ []
Reads (Comment n) bytes line = IsComment n line
Reads Pairs bytes line = HasPairs bytes line
Reads (HalfPair high) bytes line = HasHalfPair high bytes line
Reads Minus bytes line = line ≡ minus_sign ∷ []
Reads (Number n) bytes line = HasNumber n line
Reads Percent bytes line = line ≡ percent_sign ∷ []
Reads (Returned content) bytes line = IsReturned content bytes line
Reads (Refused why) bytes line = ⊥

-- Holds if the beginning of a text with `marks` marks brings a reader to this place. `left` of the
-- marks come after this beginning.
pub record IsAt (place : Place) (bytes : List ℕ) (line left marks : ℕ) (text : List ℕ) :
    Type 0 where
  pub ended : all_items (lines_of text).ended ≡ Some (ended_items text)
  pub marked : marks_in (ended_items text) + (marks_at place + left) ≡ marks
  pub counted : line ≡ line_after text
  pub last : Reads place bytes (lines_of text).last

-- Holds if the reader has taken `text`, the beginning of a text with `marks` marks, and no byte of
-- it is refused.
pub record StandsFor (reader : TickReader) (marks : ℕ) (text : List ℕ) : Type 0 where
  pub at : IsAt reader.place reader.bytes.items reader.line reader.left marks text

-- the number of the line in which the reader is
abbrev pub reader_line : TickReader → ℕ
reader_line reader = reader.line

-- Holds if the reader has refused its text in this way. From then on it returns this refusal.
pub record HasRefused (reader : TickReader) (bad : BadTicks) : Type 0 where
  pub place : reader.place ≡ Refused bad.why
  pub line : reader.line ≡ bad.line

-- the bytes of the line that the reader ended last, if it was one of bytes
abbrev pub lent_bytes : TickReader → List ℕ
lent_bytes reader = reader.bytes.items
