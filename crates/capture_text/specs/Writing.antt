-- The digits of a time that is written.
use Rattle.std.specs.Prelude.{ℕ, ◌+◌, ◌/◌, ◌%◌, List, [], ◌∷◌, ◌++◌}
use Rattle.std.specs.Fmt.{decimal}
use Rattle.hex.specs.Hex.{encode_lower}
use Rattle.yasir_ticks.specs.Characters.{line_feed}
use Rattle.capture_text.specs.CaptureText.{point}

-- the digits of a number: for each of these counts, how often it fits into what remains
abbrev pub digits_by : List ℕ → ℕ → List ℕ
digits_by [] remainder = []
digits_by (counts ∷ more) remainder = (48 + remainder / counts) ∷ digits_by more (remainder % counts)

-- nine digits of nanoseconds
abbrev pub fraction_digits : ℕ → List ℕ
fraction_digits nanoseconds = digits_by (100000000 ∷ 10000000 ∷ 1000000 ∷ 100000 ∷ 10000 ∷ 1000
    ∷ 100 ∷ 10 ∷ 1 ∷ []) nanoseconds

-- how the line of a record with this time begins: the time in seconds, with nine digits after the
-- point, and a space
abbrev pub time_front : ℕ → List ℕ
time_front start =
    ((decimal (start / 1000000000) ++ point ∷ []) ++ fraction_digits (start % 1000000000)) ++ 32 ∷ []

-- the line of a record with this time and these bytes
abbrev pub written_line : ℕ → List ℕ → List ℕ
written_line start bytes = (time_front start ++ encode_lower bytes) ++ line_feed ∷ []
