-- The definitions, computed at known values: those of a query of Modbus over Serial Line V1.02, and
-- the usual check text.
use Rattle.line_rules.specs.Crc.{bit_step, bit_steps, byte_step, crc}
use Rattle.line_rules.specs.Endings.{ends_in_check}
use Rattle.rtu_frame.specs.{Crc.crc_rtu, Frame.is_frame, Frame.has_right_ending, Rules.rtu_rules}
use Rattle.std.proofs.Common.{◌≡◌, [], ◌∷◌, true, false, refl, codes}

pub crc_of_two_bytes : crc_rtu (0x01 ∷ 0x03 ∷ []) ≡ 0x2140
unfolding bit_step bit_steps byte_step crc
crc_of_two_bytes = refl

pub registers : (crc_rtu (0x01 ∷ []) ≡ 0x807E)
    × (crc_rtu (0x01 ∷ 0x03 ∷ []) ≡ 0x2140)
    × (crc_rtu (0x01 ∷ 0x03 ∷ 0x00 ∷ []) ≡ 0xF020)
    × (crc_rtu (0x01 ∷ 0x03 ∷ 0x00 ∷ 0x00 ∷ []) ≡ 0xD8F1)
    × (crc_rtu (0x01 ∷ 0x03 ∷ 0x00 ∷ 0x00 ∷ 0x00 ∷ []) ≡ 0x8419)
    × (crc_rtu (0x01 ∷ 0x03 ∷ 0x00 ∷ 0x00 ∷ 0x00 ∷ 0x0A ∷ []) ≡ 0xCDC5)
unfolding bit_step bit_steps byte_step crc
registers = (refl, refl, refl, refl, refl, refl)

pub crc_of_check_text : crc_rtu (codes "123456789") ≡ 0x4B37
unfolding bit_step bit_steps byte_step crc
crc_of_check_text = refl

pub frames : (is_frame (0x01 ∷ 0x03 ∷ 0x00 ∷ 0x00 ∷ 0x00 ∷ 0x0A ∷ 0xC5 ∷ 0xCD ∷ []) ≡ true)
    × (is_frame (0x01 ∷ 0x03 ∷ 0x00 ∷ 0x00 ∷ 0x00 ∷ 0x01 ∷ 0x84 ∷ 0x0A ∷ []) ≡ true)
    × (is_frame (0x11 ∷ 0x03 ∷ 0x00 ∷ 0x6B ∷ 0x00 ∷ 0x03 ∷ 0x76 ∷ 0x87 ∷ []) ≡ true)
    × (is_frame (0x01 ∷ 0x03 ∷ 0x40 ∷ 0x21 ∷ []) ≡ true)
    × (is_frame (0x01 ∷ 0x03 ∷ 0x00 ∷ 0x00 ∷ 0x00 ∷ 0x0A ∷ 0xC5 ∷ 0xCC ∷ []) ≡ false)
unfolding bit_step bit_steps byte_step crc is_frame has_right_ending ends_in_check
frames = (refl, refl, refl, refl, refl)

-- If the last byte makes a right ending, its lowest bit is turned; any other byte stays.
pub spoiled_bytes : (rtu_rules.spoil (0x01 ∷ 0x7E ∷ []) 0x80 ≡ 0x81)
    × (rtu_rules.spoil (0x01 ∷ 0x03 ∷ 0x40 ∷ []) 0x21 ≡ 0x20)
    × (rtu_rules.spoil (0x01 ∷ 0x03 ∷ 0x40 ∷ []) 0x20 ≡ 0x20)
    × (rtu_rules.spoil (0xFF ∷ []) 0xFF ≡ 0xFE)
    × (rtu_rules.spoil [] 0xFF ≡ 0xFF)
unfolding bit_step bit_steps byte_step crc has_right_ending ends_in_check
spoiled_bytes = (refl, refl, refl, refl, refl)
