-- The definitions of the receiver on small links of Modbus RTU frames, with a tag that takes the
-- place of HMAC.
use Rattle.frame_ending.proofs.BurstRows.{Row, row, noted_at, AreNotes, AreOthers}
use Rattle.frame_ending.specs.Laid.{tick_at}
use Rattle.frame_ending.specs.LiveBytes.{before_pause, up_to_byte}
use Rattle.line_rules.specs.Crc.{crc, byte_step, bit_steps, bit_step}
use Rattle.link_format.proofs.Worked.{rtu, profile_with, on_line, READ_TEN_REGISTERS}
use Rattle.link_format.proofs.Worked.{SPOILED_REQUEST, READ_ONE_REGISTER}
use Rattle.link_format.specs.{NumberedFrame.NumberedFrame, Profile.Profile, Profile.trailer}
use Rattle.link_box.specs.Checking.{FullNote, check_notes, received_line, passed}
use Rattle.link_box.specs.Checking.FullNote.{passed_note, refused_note, dropped_note}
use Rattle.link_box.specs.{Emissions.spoiled, Shapes.kept, Verdicts.verdict_of}
use Rattle.link_box.specs.Verdicts.{checked}
use Rattle.link_box.specs.declared.check_note.DroppedWhy.TheVariants.{Busy}
use Rattle.link_box.specs.declared.check_note.RefusedWhy.TheVariants.{Trailer, Form, Number}
use Rattle.link_box.specs.declared.check_note.RefusedWhy.TheVariants.{Tag}
use Rattle.std.proofs.Common.{◌≡◌, List, [], ◌∷◌, ◌++◌, map, refl, ℕ}
use Rattle.yasir_ticks.specs.Bursts.{bursts_from, with_byte}
use Rattle.yasir_ticks.specs.{Ticks.silent, declared.tick.Tick.Tick}

abbrev profile : Profile
profile = profile_with 2 12

-- 25 ticks: the request to read ten registers with these last bytes of its trailer
abbrev packet_ending : List ℕ → List Tick
packet_ending bytes =
    on_line READ_TEN_REGISTERS ++ silent 3
    ++ on_line (0x00 ∷ 0x01 ∷ 0x01 ∷ 0x01 ∷ 0x03 ∷ 0x00 ∷ 0x00 ∷ 0x00 ∷ 0x0A ∷ 0xC5 ∷ 0xCD ∷ bytes)

-- the packet as it was sealed with number 1
abbrev PACKET : List Tick
PACKET = packet_ending (0xEE ∷ 0xEE ∷ 0xEE ∷ [])

-- a whole packet
abbrev one_packet : Row FullNote
one_packet = row 0 (PACKET ++ silent 24) (noted_at 24 (passed_note 1 0 READ_TEN_REGISTERS) ∷ [])
    (silent 18 ++ on_line READ_TEN_REGISTERS ++ silent 23)

-- a tag whose last bit is turned: the last byte of the frame leaves spoiled
abbrev wrong_tag : Row FullNote
wrong_tag = row 0 (packet_ending (0xEE ∷ 0xEE ∷ 0xEF ∷ []) ++ silent 24)
    (noted_at 24 (refused_note 0 Tag) ∷ []) (silent 18 ++ on_line SPOILED_REQUEST ++ silent 23)

-- a trailer with silence in place of its last byte
abbrev cut_trailer : Row FullNote
cut_trailer = row 0 (packet_ending (0xEE ∷ 0xEE ∷ []) ++ silent 24)
    (noted_at 24 (refused_note 0 Trailer) ∷ []) (silent 18 ++ on_line SPOILED_REQUEST ++ silent 22)

-- a trailer that is cut in the middle
abbrev cut_early : Row FullNote
cut_early = row 0
    (on_line READ_TEN_REGISTERS ++ silent 3 ++ on_line (0x00 ∷ 0x01 ∷ []) ++ silent 24)
    (noted_at 13 (refused_note 0 Trailer) ∷ []) (silent 18 ++ on_line SPOILED_REQUEST ++ silent 11)

-- a byte in the pause
abbrev byte_in_pause : Row FullNote
byte_in_pause = row 0 (on_line READ_TEN_REGISTERS ++ silent 2 ++ on_line (0x00 ∷ []) ++ silent 24)
    (noted_at 10 (refused_note 0 Trailer) ∷ []) (silent 18 ++ on_line SPOILED_REQUEST ++ silent 9)

-- no trailer after bytes without a right ending: the last byte leaves as it came
abbrev no_frame : Row FullNote
no_frame = row 0 (on_line SPOILED_REQUEST ++ silent 24) (noted_at 11 (refused_note 0 Trailer) ∷ [])
    (silent 18 ++ on_line SPOILED_REQUEST ++ silent 6)

-- three bytes with a right ending are no frame, and are spoiled all the same
abbrev too_few : Row FullNote
too_few = row 0 (on_line (0x01 ∷ 0x7E ∷ 0x80 ∷ []) ++ silent 24)
    (noted_at 6 (refused_note 0 Trailer) ∷ [])
    (silent 18 ++ on_line (0x01 ∷ 0x7E ∷ 0x81 ∷ []) ++ silent 6)

-- a whole trailer after bytes that are no frame
abbrev wrong_form : Row FullNote
wrong_form = row 0
    (on_line SPOILED_REQUEST ++ silent 3 ++ on_line (trailer profile 1 SPOILED_REQUEST)
    ++ silent 24) (noted_at 24 (refused_note 0 Form) ∷ [])
    (silent 18 ++ on_line SPOILED_REQUEST ++ silent 23)

-- two silent ticks inside: only the bytes before them leave
abbrev parted : Row FullNote
parted = row 0
    (on_line (0x01 ∷ 0x03 ∷ 0x00 ∷ []) ++ silent 2 ++ on_line (0x00 ∷ 0x00 ∷ 0x0A ∷ [])
    ++ silent 24) (noted_at 5 (refused_note 0 Trailer) ∷ [])
    (silent 18 ++ on_line (0x01 ∷ 0x03 ∷ 0x00 ∷ []) ++ silent 11)

-- no number up to the limit has the word
abbrev no_number : Row FullNote
no_number = row 281474976710654
    (on_line READ_TEN_REGISTERS ++ silent 3 ++ on_line (trailer profile 0 READ_TEN_REGISTERS)
    ++ silent 24) (noted_at 24 (refused_note 0 Number) ∷ [])
    (silent 18 ++ on_line SPOILED_REQUEST ++ silent 23)

-- the greatest number
abbrev last_number : Row FullNote
last_number = row 281474976710654
    (on_line READ_TEN_REGISTERS ++ silent 3
    ++ on_line (trailer profile 281474976710655 READ_TEN_REGISTERS) ++ silent 24)
    (noted_at 24 (passed_note 281474976710655 0 READ_TEN_REGISTERS) ∷ [])
    (silent 18 ++ on_line READ_TEN_REGISTERS ++ silent 23)

-- the packet twice: its word represents 65537 the second time
abbrev repeated : Row FullNote
repeated = row 0 (PACKET ++ silent 4 ++ PACKET ++ silent 24)
    (noted_at 24 (passed_note 1 0 READ_TEN_REGISTERS) ∷ noted_at 53 (refused_note 29 Tag) ∷ [])
    (silent 18 ++ on_line READ_TEN_REGISTERS ++ silent 21 ++ on_line SPOILED_REQUEST ++ silent 23)

-- a byte directly after the trailer
abbrev byte_behind : Row FullNote
byte_behind = row 0 (PACKET ++ on_line (0x00 ∷ []) ++ silent 24)
    (noted_at 24 (passed_note 1 0 READ_TEN_REGISTERS) ∷ [])
    (silent 18 ++ on_line READ_TEN_REGISTERS ++ silent 24)

-- a packet that starts while the last byte of a refused burst leaves, and is dropped
abbrev too_early : Row FullNote
too_early = row 0 (on_line READ_ONE_REGISTER ++ silent 17 ++ PACKET ++ silent 24)
    (noted_at 11 (refused_note 0 Trailer) ∷ noted_at 25 (dropped_note 25 Busy) ∷ [])
    (silent 18 ++ on_line (0x01 ∷ 0x03 ∷ 0x00 ∷ 0x00 ∷ 0x00 ∷ 0x01 ∷ 0x84 ∷ 0x0B ∷ []) ++ silent 48)

-- a packet that starts in the first tick after the refused burst has left, and passes
abbrev soon_enough : Row FullNote
soon_enough = row 0 (on_line READ_ONE_REGISTER ++ silent 18 ++ PACKET ++ silent 24)
    (noted_at 11 (refused_note 0 Trailer) ∷ noted_at 50 (passed_note 1 26 READ_TEN_REGISTERS) ∷ [])
    (silent 18 ++ on_line (0x01 ∷ 0x03 ∷ 0x00 ∷ 0x00 ∷ 0x00 ∷ 0x01 ∷ 0x84 ∷ 0x0B ∷ []) ++ silent 18
    ++ on_line READ_TEN_REGISTERS ++ silent 23)

-- a link that ends before the verdict: nothing is noted yet, and the bytes leave in time
abbrev not_yet : Row FullNote
not_yet = row 0 (packet_ending (0xEE ∷ 0xEE ∷ [])) []
    (silent 18 ++ on_line (0x01 ∷ 0x03 ∷ 0x00 ∷ 0x00 ∷ 0x00 ∷ 0x0A ∷ []))

abbrev rows : List (Row FullNote)
rows =
    one_packet ∷ wrong_tag ∷ cut_trailer ∷ cut_early ∷ byte_in_pause ∷ no_frame ∷ too_few
    ∷ wrong_form ∷ parted ∷ no_number ∷ last_number ∷ repeated ∷ byte_behind ∷ too_early
    ∷ soon_enough ∷ not_yet ∷ []

notes-are : AreNotes (check_notes profile rtu) rows
unfolding bursts_from with_byte before_pause up_to_byte tick_at kept spoiled verdict_of checked crc
    byte_step bit_steps bit_step
notes-are = refl

others-are : AreOthers (received_line profile rtu) rows
unfolding bursts_from with_byte before_pause up_to_byte tick_at kept spoiled verdict_of checked crc
    byte_step bit_steps bit_step
others-are = refl

-- the frame that passes on each of three of these links
abbrev first_frame : List NumberedFrame
first_frame = record { number = 1; start = 0; frame = READ_TEN_REGISTERS } ∷ []

passed-are : map (λ r. passed profile rtu r.floor r.line) (one_packet ∷ repeated ∷ byte_behind ∷ [])
    ≡ first_frame ∷ first_frame ∷ first_frame ∷ []
unfolding bursts_from with_byte before_pause up_to_byte tick_at kept spoiled verdict_of checked crc
    byte_step bit_steps bit_step
passed-are = refl
