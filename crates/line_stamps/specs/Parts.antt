-- Times in parts, and as whole numbers of ticks. A nanosecond has as many parts as the rate has
-- baud, so that a character has a whole number of them.
use Rattle.std.specs.Prelude.{ℕ, ◌+◌, ◌*◌, ◌/◌, ◌==◌, if◌then◌else◌, max}
use Rattle.line_stamps.specs.declared.rate.Rate.{Rate}

-- the length of a character, in parts
abbrev pub character : Rate → ℕ
character rate = rate.bits * 1000000000

-- a time in units: the nearest whole number, with a half rounded up
abbrev pub rounded : ℕ → ℕ → ℕ
rounded time unit = (2 * time + unit) / (2 * unit)

-- How many ticks there are from the start of one byte to that of the next: the nearest whole
-- number, and at least 1. A half is rounded up, but a silence of 1.5 characters down.
abbrev pub ticks_apart : ℕ → ℕ → ℕ
ticks_apart gap length_of_one =
    if 2 * gap == 5 * length_of_one then 2 else max (rounded gap length_of_one) 1
