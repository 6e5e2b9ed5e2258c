-- The definitions of the receiver with words of four bytes and tags of sixteen, on small links of
-- Modbus RTU frames, with a tag that takes the place of HMAC.
use Rattle.frame_ending.proofs.BurstRows.{Row, row, noted_at, AreNotes, AreOthers}
use Rattle.frame_ending.specs.Laid.{tick_at}
use Rattle.frame_ending.specs.LiveBytes.{before_pause, up_to_byte}
use Rattle.line_rules.specs.Crc.{crc, byte_step, bit_steps, bit_step}
use Rattle.link_format.proofs.Worked.{rtu, profile_with, on_line, READ_TEN_REGISTERS}
use Rattle.link_format.proofs.Worked.{SPOILED_REQUEST, READ_ONE_REGISTER}
use Rattle.link_format.specs.Profile.{Profile, trailer}
use Rattle.link_box.specs.Checking.{FullNote, check_notes, received_line, passed}
use Rattle.link_box.specs.Checking.FullNote.{passed_note, refused_note, dropped_note}
use Rattle.link_box.specs.{Emissions.spoiled, Shapes.kept, Verdicts.verdict_of}
use Rattle.link_box.specs.Verdicts.{checked}
use Rattle.link_box.specs.declared.check_note.DroppedWhy.TheVariants.{Busy}
use Rattle.link_box.specs.declared.check_note.RefusedWhy.TheVariants.{Trailer, Tag}
use Rattle.std.proofs.Common.{◌≡◌, ℕ, List, [], ◌∷◌, ◌++◌, refl}
use Rattle.yasir_ticks.specs.Bursts.{bursts_from, with_byte}
use Rattle.yasir_ticks.specs.{Ticks.silent, declared.tick.Tick.Tick}

abbrev profile : Profile
profile = profile_with 4 16

-- 31 ticks: the request to read ten registers, a word of 1, and this as the last byte of the tag
abbrev packet_ending : ℕ → List Tick
packet_ending last =
    on_line READ_TEN_REGISTERS ++ silent 3
    ++ on_line (0x00 ∷ 0x00 ∷ 0x00 ∷ 0x01 ∷ 0x01 ∷ 0x01 ∷ 0x03 ∷ 0x00 ∷ 0x00 ∷ 0x00 ∷ 0x0A ∷ 0xC5
    ∷ 0xCD ∷ 0xEE ∷ 0xEE ∷ 0xEE ∷ 0xEE ∷ 0xEE ∷ 0xEE ∷ last ∷ [])

-- the packet as it was sealed with number 1
abbrev PACKET : List Tick
PACKET = packet_ending 0xEE

-- the packet with another number
abbrev packet_of : ℕ → List Tick
packet_of number = on_line READ_TEN_REGISTERS ++ silent 3
    ++ on_line (trailer profile number READ_TEN_REGISTERS) ++ silent 30

-- a whole packet
abbrev one_packet : Row FullNote
one_packet = row 0 (PACKET ++ silent 30) (noted_at 30 (passed_note 1 0 READ_TEN_REGISTERS) ∷ [])
    (silent 24 ++ on_line READ_TEN_REGISTERS ++ silent 29)

-- a tag whose last bit is turned: the last byte of the frame leaves spoiled
abbrev wrong_tag : Row FullNote
wrong_tag = row 0 (packet_ending 0xEF ++ silent 30) (noted_at 30 (refused_note 0 Tag) ∷ [])
    (silent 24 ++ on_line SPOILED_REQUEST ++ silent 29)

-- a trailer of the other profile: 14 of the 20 bytes
abbrev short_trailer : Row FullNote
short_trailer = row 0
    (on_line READ_TEN_REGISTERS ++ silent 3 ++ on_line (0x00 ∷ 0x01 ∷ 0x01 ∷ 0x01 ∷ 0x03 ∷ 0x00
    ∷ 0x00 ∷ 0x00 ∷ 0x0A ∷ 0xC5 ∷ 0xCD ∷ 0xEE ∷ 0xEE ∷ 0xEE ∷ []) ++ silent 30)
    (noted_at 25 (refused_note 0 Trailer) ∷ []) (silent 24 ++ on_line SPOILED_REQUEST ++ silent 23)

-- the packet twice: its word represents 2^32 + 1 the second time
abbrev repeated : Row FullNote
repeated = row 0 (PACKET ++ silent 4 ++ PACKET ++ silent 30)
    (noted_at 30 (passed_note 1 0 READ_TEN_REGISTERS) ∷ noted_at 65 (refused_note 35 Tag) ∷ [])
    (silent 24 ++ on_line READ_TEN_REGISTERS ++ silent 27 ++ on_line SPOILED_REQUEST ++ silent 29)

-- more packets were lost than a word of two bytes can tell, and as many as one of four bytes can
abbrev far_number : Row FullNote
far_number = row 0 (packet_of 65538) (noted_at 30 (passed_note 65538 0 READ_TEN_REGISTERS) ∷ [])
    (silent 24 ++ on_line READ_TEN_REGISTERS ++ silent 29)

abbrev farthest_number : Row FullNote
farthest_number = row 7 (packet_of 4294967303)
    (noted_at 30 (passed_note 4294967303 0 READ_TEN_REGISTERS) ∷ [])
    (silent 24 ++ on_line READ_TEN_REGISTERS ++ silent 29)

-- a packet that starts while the last byte of a refused burst leaves, and is dropped
abbrev too_early : Row FullNote
too_early = row 0 (on_line READ_ONE_REGISTER ++ silent 23 ++ PACKET ++ silent 30)
    (noted_at 11 (refused_note 0 Trailer) ∷ noted_at 31 (dropped_note 31 Busy) ∷ [])
    (silent 24 ++ on_line (0x01 ∷ 0x03 ∷ 0x00 ∷ 0x00 ∷ 0x00 ∷ 0x01 ∷ 0x84 ∷ 0x0B ∷ []) ++ silent 60)

-- a packet that starts in the first tick after the refused burst has left, and passes
abbrev soon_enough : Row FullNote
soon_enough = row 0 (on_line READ_ONE_REGISTER ++ silent 24 ++ PACKET ++ silent 30)
    (noted_at 11 (refused_note 0 Trailer) ∷ noted_at 62 (passed_note 1 32 READ_TEN_REGISTERS) ∷ [])
    (silent 24 ++ on_line (0x01 ∷ 0x03 ∷ 0x00 ∷ 0x00 ∷ 0x00 ∷ 0x01 ∷ 0x84 ∷ 0x0B ∷ []) ++ silent 24
    ++ on_line READ_TEN_REGISTERS ++ silent 29)

abbrev rows : List (Row FullNote)
rows =
    one_packet ∷ wrong_tag ∷ short_trailer ∷ repeated ∷ far_number ∷ farthest_number ∷ too_early
    ∷ soon_enough ∷ []

notes-are : AreNotes (check_notes profile rtu) rows
unfolding bursts_from with_byte before_pause up_to_byte tick_at kept spoiled verdict_of checked crc
    byte_step bit_steps bit_step
notes-are = refl

others-are : AreOthers (received_line profile rtu) rows
unfolding bursts_from with_byte before_pause up_to_byte tick_at kept spoiled verdict_of checked crc
    byte_step bit_steps bit_step
others-are = refl

one_packet-passed : passed profile rtu 0 one_packet.line
    ≡ record { number = 1; start = 0; frame = READ_TEN_REGISTERS } ∷ []
unfolding bursts_from with_byte before_pause up_to_byte tick_at kept spoiled verdict_of checked crc
    byte_step bit_steps bit_step
one_packet-passed = refl
