-- What a DNP3 device reads of small lines of the receiver. The tags are a stand-in for those of
-- HMAC.
use Rattle.frame_ending.specs.Laid.{tick_at}
use Rattle.device_model.specs.{DnpReads.dnp_reads, Frames.FrameRead, Hunt.hunt}
use Rattle.dnp_link_frame.specs.Blocks.{room_by, begins_right, is_good_header, end_in_crcs}
use Rattle.dnp_link_frame.specs.Blocks.{block_start, is_frame, has_right_ending}
use Rattle.dnp_link_frame.specs.Rules.{dnp_rules}
use Rattle.frame_ending.specs.LiveBytes.{before_pause, up_to_byte}
use Rattle.line_rules.specs.Crc.{crc, byte_step, bit_steps, bit_step}
use Rattle.{line_rules.specs.Endings.ends_in_check, link_format.specs.Profile.Profile}
use Rattle.link_box.specs.{Checking.received_line, Emissions.spoiled, Shapes.kept}
use Rattle.link_box.specs.Verdicts.{verdict_of, checked}
use Rattle.std.proofs.Common.{◌≡◌, ℕ, List, [], ◌∷◌, ◌++◌, map, take, replicate, refl}
use Rattle.yasir_ticks.specs.{Bursts.bursts_from, Bursts.with_byte, Ticks.silent}
use Rattle.yasir_ticks.specs.declared.tick.Tick.{Tick, TheVariants.Byte}

-- the stand-in for a tag: twelve bytes made of the number and the frame
abbrev stand_in : ℕ → List ℕ → List ℕ
stand_in number frame = take 12 (number ∷ frame ++ replicate 12 0xEE)

abbrev profile : Profile
profile = record { word_len = 2; tag_len = 12; tag = stand_in; limit = 281474976710655 }

abbrev on_line : List ℕ → List Tick
on_line x = map (λ b. Byte b) x

-- the reset of a link
abbrev RESET_LINK : List ℕ
RESET_LINK = 0x05 ∷ 0x64 ∷ 0x05 ∷ 0xC0 ∷ 0x01 ∷ 0x00 ∷ 0x00 ∷ 0x04 ∷ 0xE9 ∷ 0x21 ∷ []

-- 27 ticks: the reset, the word of number 1, and a tag whose last byte is this one
abbrev packet_ending : ℕ → List Tick
packet_ending last =
    on_line RESET_LINK ++ silent 3
    ++ on_line (0x00 ∷ 0x01 ∷ 0x01 ∷ 0x05 ∷ 0x64 ∷ 0x05 ∷ 0xC0 ∷ 0x01 ∷ 0x00 ∷ 0x00 ∷ 0x04 ∷ 0xE9
    ∷ 0x21 ∷ last ∷ [])

-- the header of a frame with one byte of user data, without that byte and its CRC
abbrev HEADER_ALONE : List ℕ
HEADER_ALONE = 0x05 ∷ 0x64 ∷ 0x06 ∷ 0xC4 ∷ 0x01 ∷ 0x00 ∷ 0x00 ∷ 0x04 ∷ 0xA1 ∷ 0x3E ∷ []

abbrev read_behind : List Tick → List FrameRead
read_behind link = dnp_reads (received_line profile dnp_rules 0 link)

-- The last byte of the reset leaves in tick 27, and the frame is read there.
not_yet : read_behind (packet_ending 0xEE) ≡ []
unfolding bursts_from with_byte before_pause up_to_byte tick_at kept spoiled verdict_of checked crc
    byte_step bit_steps bit_step room_by begins_right is_good_header end_in_crcs block_start
    is_frame has_right_ending ends_in_check hunt
not_yet = refl

is_read-now : read_behind (packet_ending 0xEE ++ silent 1)
    ≡ record { start = 18; frame = RESET_LINK } ∷ []
unfolding bursts_from with_byte before_pause up_to_byte tick_at kept spoiled verdict_of checked crc
    byte_step bit_steps bit_step room_by begins_right is_good_header end_in_crcs block_start
    is_frame has_right_ending ends_in_check hunt
is_read-now = refl

-- If the tag is wrong, the frame leaves with a bad header, which the device drops.
wrong-unread : read_behind (packet_ending 0xEF ++ silent 24) ≡ []
unfolding bursts_from with_byte before_pause up_to_byte tick_at kept spoiled verdict_of checked crc
    byte_step bit_steps bit_step room_by begins_right is_good_header end_in_crcs block_start
    is_frame has_right_ending ends_in_check hunt
wrong-unread = refl

-- A frame that is cut off is filled, so the device doesn't take the packet after it.
filled-behind : read_behind (on_line HEADER_ALONE ++ silent 21 ++ packet_ending 0xEE ++ silent 1)
    ≡ record { start = 49; frame = RESET_LINK } ∷ []
unfolding bursts_from with_byte before_pause up_to_byte tick_at kept spoiled verdict_of checked crc
    byte_step bit_steps bit_step room_by begins_right is_good_header end_in_crcs block_start
    is_frame has_right_ending ends_in_check hunt
filled-behind = refl
