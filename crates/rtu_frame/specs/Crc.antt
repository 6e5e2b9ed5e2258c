-- The check of Modbus RTU (Modbus over Serial Line V1.02): the polynomial A001, from the register
-- FFFF.
use Rattle.std.specs.Prelude.{ℕ, List}
unfoldable pub use Rattle.line_rules.specs.Crc.{bit_step, bit_steps, byte_step, crc}

-- the CRC of an RTU frame's bytes
abbrev pub crc_rtu : List ℕ → ℕ
crc_rtu bytes = crc 0xA001 0xFFFF bytes
