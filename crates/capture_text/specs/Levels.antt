-- The level of a wire, bit by bit, as a UART has it: a wire is high while it is quiet. A byte is a
-- start bit, which is low, eight bits of data, the lowest first, an even parity bit if a character
-- has 11 bits, and a stop bit, which is high.
use Rattle.std.specs.Prelude.{ℕ, zero, suc, ◌/◌, ◌%◌, ◌==◌, count_ones, if◌then◌else◌, Bool, true, false}
use Rattle.std.specs.Prelude.{List, [], ◌∷◌, ◌++◌, replicate}
use Rattle.std.specs.List.{flat_map}
use Rattle.yasir_ticks.specs.declared.tick.Tick.{Tick}
use Rattle.yasir_ticks.specs.declared.tick.Tick.TheVariants.{Silent, Byte}

-- this many bits of a number, the lowest first
unfoldable pub data_levels : ℕ → ℕ → List Bool
data_levels zero byte = []
data_levels (suc n) byte = (byte % 2 == 1) ∷ data_levels n (byte / 2)

-- the parity bit, if a character has 11 bits: it makes the number of high bits even
abbrev pub parity_levels : ℕ → ℕ → List Bool
parity_levels bits byte = if bits == 11 then (count_ones byte % 2 == 1) ∷ [] else []

abbrev pub byte_levels : ℕ → ℕ → List Bool
byte_levels bits byte = false ∷ data_levels 8 byte ++ parity_levels bits byte ++ true ∷ []

-- the levels of a wire in a tick
abbrev pub tick_levels : ℕ → Tick → List Bool
tick_levels bits Silent = replicate bits true
tick_levels bits (Byte byte) = byte_levels bits byte

-- the levels of a wire that carries a line
abbrev pub line_levels : ℕ → List Tick → List Bool
line_levels bits line = flat_map (tick_levels bits) line
