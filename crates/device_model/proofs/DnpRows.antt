-- What a DNP3 device reads from small lines, computed: a reset of a link after other bytes, a read
-- of class data with silence inside, and frames that are damaged.
use Rattle.device_model.specs.{DnpReads.dnp_reads, Hunt.hunt}
use Rattle.dnp_link_frame.proofs.Rows.{reset_link, wrong_reset, read_class, cut_before_zeros}
use Rattle.dnp_link_frame.specs.Blocks.{begins_right, is_good_header, end_in_crcs, is_frame}
use Rattle.line_rules.specs.Crc.{bit_step, bit_steps, byte_step, crc}
use Rattle.line_rules.specs.Endings.{ends_in_check}
use Rattle.std.proofs.Common.{◌≡◌, ℕ, List, [], ◌∷◌, ◌++◌, map, refl}
use Rattle.yasir_ticks.specs.Ticks.{silent}
use Rattle.yasir_ticks.specs.declared.tick.Tick.{Tick, TheVariants.Byte}

abbrev on_line : List ℕ → List Tick
on_line x = map (λ b. Byte b) x

-- Two bytes are passed over, one of which is a first byte without its second.
pub found_behind : dnp_reads (Byte 0xFF ∷ Byte 0x05 ∷ on_line reset_link)
    ≡ record { start = 2; frame = reset_link } ∷ []
unfolding bit_step bit_steps byte_step crc ends_in_check begins_right is_good_header end_in_crcs
    is_frame hunt
found_behind = refl

-- Silence inside a frame means nothing, and its last byte ends the frame.
pub parted_read : dnp_reads (on_line reset_link ++ silent 9 ++ Byte 0x05 ∷ (silent 40
    ++ on_line (0x64 ∷ 0x0B ∷ 0xC4 ∷ 0x01 ∷ 0x00 ∷ 0x00 ∷ 0x04 ∷ 0xF4 ∷ 0x5C ∷ 0xC0 ∷ 0xC0 ∷ 0x01
    ∷ 0x3C ∷ 0x02 ∷ 0x06 ∷ 0x54 ∷ 0xE0 ∷ [])))
    ≡ record { start = 0; frame = reset_link } ∷ record { start = 19; frame = read_class } ∷ []
unfolding bit_step bit_steps byte_step crc ends_in_check begins_right is_good_header end_in_crcs
    is_frame hunt
parted_read = refl

-- A bad header is dropped as a whole, and the frame after it is read.
pub bad_header_dropped : dnp_reads (on_line wrong_reset ++ on_line reset_link)
    ≡ record { start = 10; frame = reset_link } ∷ []
unfolding bit_step bit_steps byte_step crc ends_in_check begins_right is_good_header end_in_crcs
    is_frame hunt
bad_header_dropped = refl

-- A frame that is cut off takes the first two bytes of what follows. It is read only if they are
-- its own. The others of what follows begin no header.
pub cut_takes_two : dnp_reads (on_line cut_before_zeros ++ silent 9 ++ on_line reset_link) ≡ []
unfolding bit_step bit_steps byte_step crc ends_in_check begins_right is_good_header end_in_crcs
    is_frame hunt
cut_takes_two = refl

pub zeros_complete : dnp_reads (on_line cut_before_zeros ++ silent 9 ++ Byte 0x00 ∷ Byte 0x00
    ∷ on_line reset_link)
    ≡ record { start = 0; frame = cut_before_zeros ++ (0x00 ∷ 0x00 ∷ []) }
    ∷ record { start = 23; frame = reset_link } ∷ []
unfolding bit_step bit_steps byte_step crc ends_in_check begins_right is_good_header end_in_crcs
    is_frame hunt
zeros_complete = refl
