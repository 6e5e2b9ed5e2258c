-- The ASCII characters of tick text: its signs, its line ends, and the bounds of the decimal
-- digits.
use Rattle.std.specs.Prelude.{ℕ}

-- `+`, before the bytes of a line
abbrev pub plus_sign : ℕ
plus_sign = 43

-- `-`, before a number of silent ticks
abbrev pub minus_sign : ℕ
minus_sign = 45

-- `%`, a mark
abbrev pub percent_sign : ℕ
percent_sign = 37

-- `#`, before a comment
abbrev pub number_sign : ℕ
number_sign = 35

-- CR
abbrev pub carriage_return : ℕ
carriage_return = 13

-- LF
abbrev pub line_feed : ℕ
line_feed = 10

abbrev pub digit_zero : ℕ
digit_zero = 48

abbrev pub digit_nine : ℕ
digit_nine = 57
