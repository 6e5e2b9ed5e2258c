-- The word of a rate: its baud and the bits of a character, such as `9600x11`.
use Rattle.std.specs.Prelude.{ℕ, List, ◌++◌, codes, decimal}
use Rattle.line_stamps.specs.declared.rate.Rate.{Rate}

-- the word of a rate, such as `9600x11`: the baud in decimal, an `x`, and the bits of a character
abbrev pub rate_word : Rate → List ℕ
rate_word rate = decimal rate.baud ++ codes "x" ++ decimal rate.bits
