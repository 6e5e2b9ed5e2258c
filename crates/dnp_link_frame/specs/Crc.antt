-- The check of DNP3 (IEEE 1815): the polynomial A6BC, from the register 0, and then the complement
-- of the register.
use Rattle.std.specs.Prelude.{ℕ, ◌-◌, List}
unfoldable pub use Rattle.line_rules.specs.Crc.{bit_step, bit_steps, byte_step, crc}

-- the register after these bytes
abbrev pub register_of : List ℕ → ℕ
register_of bytes = crc 0xA6BC 0 bytes

-- the CRC of these bytes
abbrev pub crc_dnp : List ℕ → ℕ
crc_dnp bytes = 0xFFFF - register_of bytes
