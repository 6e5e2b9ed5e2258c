-- The definitions, computed at known values: the usual check text, a reset of a link, a read of
-- class data, and a frame whose last CRC is 0000.
use Rattle.dnp_link_frame.specs.Blocks.{size_by, room_by, room_of, begins_right, is_good_header}
use Rattle.dnp_link_frame.specs.Blocks.{end_in_crcs, block_start, is_frame, has_right_ending}
use Rattle.dnp_link_frame.specs.Crc.{register_of, crc_dnp}
use Rattle.dnp_link_frame.specs.{Frame.frame_of, Frame.in_blocks, Rules.dnp_rules}
use Rattle.line_rules.specs.Crc.{bit_step, bit_steps, byte_step, crc}
use Rattle.line_rules.specs.{Endings.ends_in_check, Rules.head_of, Rules.lacking_of}
use Rattle.line_rules.specs.declared.head.Head.TheVariants.{Short, Good, Bad}
use Rattle.std.proofs.Common.{◌≡◌, ℕ, List, [], ◌∷◌, ◌++◌, true, false, refl, codes}

abbrev pub reset_link : List ℕ
reset_link = 0x05 ∷ 0x64 ∷ 0x05 ∷ 0xC0 ∷ 0x01 ∷ 0x00 ∷ 0x00 ∷ 0x04 ∷ 0xE9 ∷ 0x21 ∷ []

-- the reset of a link without its last byte, and with a wrong last byte
abbrev pub reset_begun : List ℕ
reset_begun = 0x05 ∷ 0x64 ∷ 0x05 ∷ 0xC0 ∷ 0x01 ∷ 0x00 ∷ 0x00 ∷ 0x04 ∷ 0xE9 ∷ []

abbrev pub wrong_reset : List ℕ
wrong_reset = reset_begun ++ 0x20 ∷ []

abbrev pub read_class : List ℕ
read_class = (0x05 ∷ 0x64 ∷ 0x0B ∷ 0xC4 ∷ 0x01 ∷ 0x00 ∷ 0x00 ∷ 0x04 ∷ 0xF4 ∷ 0x5C ∷ [])
    ++ (0xC0 ∷ 0xC0 ∷ 0x01 ∷ 0x3C ∷ 0x02 ∷ 0x06 ∷ 0x54 ∷ 0xE0 ∷ [])

-- a frame without its last two bytes, which are 00 00
abbrev pub cut_before_zeros : List ℕ
cut_before_zeros = 0x05 ∷ 0x64 ∷ 0x07 ∷ 0xC4 ∷ 0x01 ∷ 0x00 ∷ 0x00 ∷ 0x04 ∷ 0x46 ∷ 0x8B
    ∷ 0xC7 ∷ 0x70 ∷ []

pub crcs : (crc_dnp (codes "123456789") ≡ 0xEA82)
    × (crc_dnp (0x05 ∷ 0x64 ∷ 0x05 ∷ 0xC0 ∷ 0x01 ∷ 0x00 ∷ 0x00 ∷ 0x04 ∷ []) ≡ 0x21E9)
    × (crc_dnp [] ≡ 0xFFFF)
unfolding bit_step bit_steps byte_step crc
crcs = (refl, refl, refl)

pub registers : (register_of (0x05 ∷ []) ≡ 0xEF26)
    × (register_of (0x05 ∷ 0x64 ∷ []) ≡ 0x3F0D)
    × (register_of (0x05 ∷ 0x64 ∷ 0x05 ∷ []) ≡ 0xFFB6)
    × (register_of (0x05 ∷ 0x64 ∷ 0x05 ∷ 0xC0 ∷ []) ≡ 0x7DA1)
    × (register_of (0x05 ∷ 0x64 ∷ 0x05 ∷ 0xC0 ∷ 0x01 ∷ []) ≡ 0x8F6E)
    × (register_of (0x05 ∷ 0x64 ∷ 0x05 ∷ 0xC0 ∷ 0x01 ∷ 0x00 ∷ []) ≡ 0x3033)
    × (register_of (0x05 ∷ 0x64 ∷ 0x05 ∷ 0xC0 ∷ 0x01 ∷ 0x00 ∷ 0x00 ∷ []) ≡ 0xC116)
    × (register_of (0x05 ∷ 0x64 ∷ 0x05 ∷ 0xC0 ∷ 0x01 ∷ 0x00 ∷ 0x00 ∷ 0x04 ∷ []) ≡ 0xDE16)
unfolding bit_step bit_steps byte_step crc
registers = (refl, refl, refl, refl, refl, refl, refl, refl)

pub sizes : (size_by 5 ≡ 10) × (size_by 6 ≡ 13) × (size_by 11 ≡ 18) × (size_by 21 ≡ 28)
    × (size_by 22 ≡ 31) × (size_by 255 ≡ 292)
sizes = (refl, refl, refl, refl, refl, refl)

pub rooms : (room_of [] ≡ 292) × (room_of (0x05 ∷ 0x64 ∷ []) ≡ 292)
    × (room_of (0x05 ∷ 0x64 ∷ 0x04 ∷ []) ≡ 292) × (room_of (0x05 ∷ 0x64 ∷ 0x05 ∷ []) ≡ 10)
    × (room_of (0x01 ∷ 0x02 ∷ 0x0B ∷ []) ≡ 18)
unfolding room_by
rooms = (refl, refl, refl, refl, refl)

-- the frames that headers and user data make
pub frames_of : (frame_of (record { control = 0xC0; destination = 1; source = 1024 }) []
    ≡ reset_link)
    × (frame_of (record { control = 0xC4; destination = 1; source = 1024 })
    (0xC0 ∷ 0xC0 ∷ 0x01 ∷ 0x3C ∷ 0x02 ∷ 0x06 ∷ []) ≡ read_class)
    × (frame_of (record { control = 0xC4; destination = 1; source = 1024 }) (0xC7 ∷ 0x70 ∷ [])
    ≡ cut_before_zeros ++ (0x00 ∷ 0x00 ∷ []))
unfolding bit_step bit_steps byte_step crc in_blocks
frames_of = (refl, refl, refl)

pub frames : (is_frame reset_link ≡ true)
    × (is_frame read_class ≡ true)
    × (is_frame (reset_link ++ 0x00 ∷ []) ≡ false)
    × (is_frame wrong_reset ≡ false)
    × (is_frame cut_before_zeros ≡ false)
    × (is_frame (cut_before_zeros ++ (0x00 ∷ 0x00 ∷ [])) ≡ true)
    × (is_frame [] ≡ false)
unfolding bit_step bit_steps byte_step crc ends_in_check begins_right is_good_header end_in_crcs
    is_frame
frames = (refl, refl, refl, refl, refl, refl, refl)

-- If the last byte makes a right ending, its lowest bit is turned; any other byte stays.
pub spoiled_bytes : (dnp_rules.spoil reset_begun 0x21 ≡ 0x20)
    × (dnp_rules.spoil reset_begun 0x20 ≡ 0x20)
    × (dnp_rules.spoil (cut_before_zeros ++ 0x00 ∷ []) 0x00 ≡ 0x01)
    × (dnp_rules.spoil (cut_before_zeros ++ 0x01 ∷ []) 0x00 ≡ 0x00)
    × (dnp_rules.spoil [] 0xFF ≡ 0xFF)
unfolding bit_step bit_steps byte_step crc ends_in_check block_start has_right_ending
spoiled_bytes = (refl, refl, refl, refl, refl)

-- what a header says, and how many bytes are lacking then
pub heads : (head_of dnp_rules reset_link ≡ Good)
    × (head_of dnp_rules (0x05 ∷ 0x64 ∷ 0x05 ∷ []) ≡ Short)
    × (head_of dnp_rules wrong_reset ≡ Bad)
    × (lacking_of dnp_rules cut_before_zeros ≡ 2)
    × (lacking_of dnp_rules (0x05 ∷ 0x64 ∷ 0x07 ∷ []) ≡ 0)
unfolding bit_step bit_steps byte_step crc ends_in_check begins_right is_good_header
heads = (refl, refl, refl, refl, refl)
