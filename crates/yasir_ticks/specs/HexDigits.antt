-- The two digits of a byte, and what the vectors hold in each lane when they decode pairs of
-- digits.
use Rattle.std.specs.Prelude.{◌≡◌, ℕ, ◌+◌, ◌*◌, ◌/◌, ◌%◌, ◌<◌, nat_lt, min, if◌then◌else◌}
use Rattle.std.specs.Prelude.{unwrap_or, List, length, slice_index}
use Rattle.hex.specs.Hex.{lower_digits, hex_digit_value}

abbrev pub first_digit : ℕ → ℕ
first_digit b = slice_index lower_digits (b / 16)

abbrev pub second_digit : ℕ → ℕ
second_digit b = slice_index lower_digits (b % 16)

-- the value of a hex digit, and 16 for a byte that is no digit
abbrev pub lane_value : ℕ → ℕ
lane_value c = unwrap_or (hex_digit_value c) 16

-- Holds if the lanes are the values of these bytes. A lane above 16 counts as 16.
pub record HasValues (lanes : List ℕ) (byte : ℕ → ℕ) : Type 0 where
  pub long : length lanes ≡ 32
  pub each : (k : ℕ) → k < 32 → min 16 (slice_index lanes k) ≡ lane_value (byte k)

-- the byte that the values of two digits make
abbrev pub lane_pair : ℕ → ℕ → ℕ
lane_pair high low = (high * 16 % 256 + low) % 256

-- the greater of two values, which is 16 or more if one of them is that of no digit
abbrev pub lane_greater : ℕ → ℕ → ℕ
lane_greater a b = if nat_lt a b then b else a

-- 112 more than a value, at most 255
abbrev pub lane_raised : ℕ → ℕ
lane_raised a = (if nat_lt a 143 then a else 143) + 112
