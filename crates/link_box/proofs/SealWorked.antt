-- The definitions of the transmitter on small lines of a Modbus RTU device, with a MAC that is used
-- in place of HMAC.
use Rattle.frame_ending.proofs.BurstRows.{Row, row, noted_at, AreNotes, AreOthers}
use Rattle.frame_ending.specs.Laid.{tick_at}
use Rattle.frame_ending.specs.LiveBytes.{before_pause, up_to_byte}
use Rattle.line_rules.specs.Crc.{crc, byte_step, bit_steps, bit_step}
use Rattle.link_format.proofs.Worked.{rtu, stand_in, profile_with, on_line, READ_TEN_REGISTERS}
use Rattle.link_format.{proofs.Worked.READ_ONE_REGISTER, specs.Profile.Profile}
use Rattle.link_box.specs.Sealing.{FullNote, judged, seal_notes, link_line, sealed}
use Rattle.link_box.specs.Sealing.FullNote.{sealed_note, unsealed_note}
use Rattle.link_box.specs.declared.seal_note.UnsealedWhy.TheVariants.{Early, Form, Spent}
use Rattle.std.proofs.Common.{◌≡◌, List, [], ◌∷◌, ◌++◌, refl}
use Rattle.yasir_ticks.specs.{Bursts.bursts_from, Bursts.with_byte, Ticks.silent}
use Rattle.yasir_ticks.specs.declared.tick.Tick.{Tick, TheVariants.Silent, TheVariants.Byte}

abbrev profile : Profile
profile = profile_with 2 12

-- the request to read ten registers, with one silent tick between its bytes
abbrev SLOW_REQUEST : List Tick
SLOW_REQUEST =
    Byte 0x01 ∷ Silent ∷ Byte 0x03 ∷ Silent ∷ Byte 0x00 ∷ Silent ∷ Byte 0x00 ∷ Silent ∷ Byte 0x00
    ∷ Silent ∷ Byte 0x0A ∷ Silent ∷ Byte 0xC5 ∷ Silent ∷ Byte 0xCD ∷ []

-- one frame
abbrev one_frame : Row FullNote
one_frame = row 0 (on_line READ_TEN_REGISTERS ++ silent 64)
    (noted_at 11 (sealed_note 1 0 READ_TEN_REGISTERS) ∷ [])
    (on_line READ_TEN_REGISTERS ++ silent 3 ++ on_line (0 ∷ 1 ∷ stand_in 12 1 READ_TEN_REGISTERS)
    ++ silent 47)

-- a frame that begins one tick too early after a sealed one
abbrev too_early : Row FullNote
too_early = row 0
    (on_line READ_TEN_REGISTERS ++ silent 20 ++ on_line READ_ONE_REGISTER ++ silent 24)
    (noted_at 11 (sealed_note 1 0 READ_TEN_REGISTERS) ∷ noted_at 39 (unsealed_note 28 Early) ∷ [])
    (on_line READ_TEN_REGISTERS ++ silent 3 ++ on_line (0 ∷ 1 ∷ stand_in 12 1 READ_TEN_REGISTERS)
    ++ silent 35)

-- a frame that begins one tick later, which isn't early
abbrev soon_enough : Row FullNote
soon_enough = row 0
    (on_line READ_TEN_REGISTERS ++ silent 21 ++ on_line READ_ONE_REGISTER ++ silent 24)
    (noted_at 11 (sealed_note 1 0 READ_TEN_REGISTERS)
    ∷ noted_at 40 (sealed_note 2 29 READ_ONE_REGISTER) ∷ [])
    (on_line READ_TEN_REGISTERS ++ silent 3 ++ on_line (0 ∷ 1 ∷ stand_in 12 1 READ_TEN_REGISTERS)
    ++ silent 4 ++ on_line READ_ONE_REGISTER ++ silent 3 ++ on_line (0 ∷ 2
    ∷ stand_in 12 2 READ_ONE_REGISTER) ++ silent 7)

-- a frame with one silent tick between its bytes
abbrev slow_frame : Row FullNote
slow_frame = row 0 (SLOW_REQUEST ++ silent 24)
    (noted_at 18 (sealed_note 1 0 READ_TEN_REGISTERS) ∷ [])
    (SLOW_REQUEST ++ silent 3 ++ on_line (0 ∷ 1 ∷ stand_in 12 1 READ_TEN_REGISTERS) ++ silent 7)

-- two silent ticks inside: the bytes after them are swallowed
abbrev paused : Row FullNote
paused = row 0
    (on_line (0x01 ∷ 0x03 ∷ 0x00 ∷ []) ++ silent 2 ++ on_line (0x00 ∷ 0x00 ∷ 0x0A ∷ 0xC5 ∷ 0xCD
    ∷ []) ++ silent 24) (noted_at 13 (unsealed_note 0 Form) ∷ [])
    (on_line (0x01 ∷ 0x03 ∷ 0x00 ∷ []) ++ silent 31)

-- a byte that comes three silent ticks after a frame
abbrev byte_behind : Row FullNote
byte_behind = row 0 (on_line READ_TEN_REGISTERS ++ silent 3 ++ on_line (0 ∷ []) ++ silent 24)
    (noted_at 15 (unsealed_note 0 Form) ∷ []) (on_line READ_TEN_REGISTERS ++ silent 28)

-- the greatest number has been used
abbrev spent : Row FullNote
spent = row 281474976710655 (on_line READ_TEN_REGISTERS ++ silent 64)
    (noted_at 11 (unsealed_note 0 Spent) ∷ []) (on_line READ_TEN_REGISTERS ++ silent 64)

-- the word of a number is its low two bytes
abbrev high_number : Row FullNote
high_number = row 65537 (on_line READ_TEN_REGISTERS ++ silent 24)
    (noted_at 11 (sealed_note 65538 0 READ_TEN_REGISTERS) ∷ [])
    (on_line READ_TEN_REGISTERS ++ silent 3
    ++ on_line (0 ∷ 2 ∷ stand_in 12 65538 READ_TEN_REGISTERS) ++ silent 7)

-- a line that ends before the fourth silent tick after its frame: nothing is noted or sealed yet
abbrev not_yet : Row FullNote
not_yet = row 0 (on_line READ_TEN_REGISTERS ++ silent 3) [] (on_line READ_TEN_REGISTERS ++ silent 3)

-- a line of no tick
abbrev no_tick : Row FullNote
no_tick = row 0 [] [] []

abbrev rows : List (Row FullNote)
rows =
    one_frame ∷ too_early ∷ soon_enough ∷ slow_frame ∷ paused ∷ byte_behind ∷ spent ∷ high_number
    ∷ not_yet ∷ no_tick ∷ []

notes-are : AreNotes (seal_notes profile rtu) rows
unfolding bursts_from with_byte before_pause up_to_byte tick_at judged crc byte_step bit_steps
    bit_step
notes-are = refl

others-are : AreOthers (link_line profile rtu) rows
unfolding bursts_from with_byte before_pause up_to_byte tick_at judged crc byte_step bit_steps
    bit_step
others-are = refl

one_frame-sealed : sealed profile rtu 0 one_frame.line
    ≡ record { number = 1; start = 0; frame = READ_TEN_REGISTERS } ∷ []
unfolding bursts_from with_byte before_pause up_to_byte tick_at judged crc byte_step bit_steps
    bit_step
one_frame-sealed = refl

soon_enough-sealed : sealed profile rtu 0 soon_enough.line
    ≡ record { number = 1; start = 0; frame = READ_TEN_REGISTERS }
    ∷ record { number = 2; start = 29; frame = READ_ONE_REGISTER } ∷ []
unfolding bursts_from with_byte before_pause up_to_byte tick_at judged crc byte_step bit_steps
    bit_step
soon_enough-sealed = refl
