-- Tables of what the single-bit shifts of a register make of a byte.
use Rattle.std.specs.Prelude.{◌≡◌, ℕ, suc, ◌*◌, ◌<◌, List, [], get_or}
use Rattle.line_rules.specs.Crc.{bit_steps}

-- Holds if the first table has, for each byte, what the 8 shifts of one byte make of it, the second
-- what the 16 shifts of two bytes make of it, and so on up to the eighteenth.
abbrev pub AreCrcTables : ℕ → List (List ℕ) → Type 0
AreCrcTables polynomial tables =
    (n byte : ℕ) → n < 18 → byte < 256
    → get_or (get_or tables n []) byte 0 ≡ bit_steps polynomial (8 * suc n) byte
