-- The definitions of the transmitter with words of four bytes and tags of sixteen, on small lines
-- of a Modbus RTU device, with a MAC that is used in place of HMAC.
use Rattle.frame_ending.proofs.BurstRows.{Row, row, noted_at, AreNotes, AreOthers}
use Rattle.frame_ending.specs.Laid.{tick_at}
use Rattle.frame_ending.specs.LiveBytes.{before_pause, up_to_byte}
use Rattle.line_rules.specs.Crc.{crc, byte_step, bit_steps, bit_step}
use Rattle.link_format.proofs.Worked.{rtu, stand_in, profile_with, on_line, READ_TEN_REGISTERS}
use Rattle.link_format.{proofs.Worked.READ_ONE_REGISTER, specs.Profile.Profile}
use Rattle.link_box.specs.Sealing.{FullNote, judged, seal_notes, link_line, sealed}
use Rattle.link_box.specs.Sealing.FullNote.{sealed_note, unsealed_note}
use Rattle.link_box.specs.declared.seal_note.UnsealedWhy.TheVariants.{Early, Spent}
use Rattle.std.proofs.Common.{◌≡◌, List, [], ◌∷◌, ◌++◌, refl}
use Rattle.yasir_ticks.specs.Bursts.{bursts_from, with_byte}
use Rattle.yasir_ticks.specs.{Ticks.silent}

abbrev profile : Profile
profile = profile_with 4 16

-- one frame
abbrev one_frame : Row FullNote
one_frame = row 0 (on_line READ_TEN_REGISTERS ++ silent 64)
    (noted_at 11 (sealed_note 1 0 READ_TEN_REGISTERS) ∷ [])
    (on_line READ_TEN_REGISTERS ++ silent 3 ++ on_line (0 ∷ 0 ∷ 0 ∷ 1
    ∷ stand_in 16 1 READ_TEN_REGISTERS) ++ silent 41)

-- a frame that begins one tick too early after a sealed one
abbrev too_early : Row FullNote
too_early = row 0
    (on_line READ_TEN_REGISTERS ++ silent 26 ++ on_line READ_ONE_REGISTER ++ silent 30)
    (noted_at 11 (sealed_note 1 0 READ_TEN_REGISTERS) ∷ noted_at 45 (unsealed_note 34 Early) ∷ [])
    (on_line READ_TEN_REGISTERS ++ silent 3 ++ on_line (0 ∷ 0 ∷ 0 ∷ 1
    ∷ stand_in 16 1 READ_TEN_REGISTERS) ++ silent 41)

-- a frame that begins one tick later, which isn't early
abbrev soon_enough : Row FullNote
soon_enough = row 0
    (on_line READ_TEN_REGISTERS ++ silent 27 ++ on_line READ_ONE_REGISTER ++ silent 30)
    (noted_at 11 (sealed_note 1 0 READ_TEN_REGISTERS)
    ∷ noted_at 46 (sealed_note 2 35 READ_ONE_REGISTER) ∷ [])
    (on_line READ_TEN_REGISTERS ++ silent 3 ++ on_line (0 ∷ 0 ∷ 0 ∷ 1
    ∷ stand_in 16 1 READ_TEN_REGISTERS) ++ silent 4 ++ on_line READ_ONE_REGISTER ++ silent 3
    ++ on_line (0 ∷ 0 ∷ 0 ∷ 2 ∷ stand_in 16 2 READ_ONE_REGISTER) ++ silent 7)

-- the word of a number is its low four bytes
abbrev third_byte : Row FullNote
third_byte = row 65535 (on_line READ_TEN_REGISTERS ++ silent 30)
    (noted_at 11 (sealed_note 65536 0 READ_TEN_REGISTERS) ∷ [])
    (on_line READ_TEN_REGISTERS ++ silent 3 ++ on_line (0 ∷ 1 ∷ 0 ∷ 0
    ∷ stand_in 16 65536 READ_TEN_REGISTERS) ++ silent 7)

abbrev high_number : Row FullNote
high_number = row 4294967297 (on_line READ_TEN_REGISTERS ++ silent 30)
    (noted_at 11 (sealed_note 4294967298 0 READ_TEN_REGISTERS) ∷ [])
    (on_line READ_TEN_REGISTERS ++ silent 3 ++ on_line (0 ∷ 0 ∷ 0 ∷ 2
    ∷ stand_in 16 4294967298 READ_TEN_REGISTERS) ++ silent 7)

-- the greatest number has been used
abbrev spent : Row FullNote
spent = row 281474976710655 (on_line READ_TEN_REGISTERS ++ silent 30)
    (noted_at 11 (unsealed_note 0 Spent) ∷ []) (on_line READ_TEN_REGISTERS ++ silent 30)

abbrev rows : List (Row FullNote)
rows = one_frame ∷ too_early ∷ soon_enough ∷ third_byte ∷ high_number ∷ spent ∷ []

notes-are : AreNotes (seal_notes profile rtu) rows
unfolding bursts_from with_byte before_pause up_to_byte tick_at judged crc byte_step bit_steps
    bit_step
notes-are = refl

others-are : AreOthers (link_line profile rtu) rows
unfolding bursts_from with_byte before_pause up_to_byte tick_at judged crc byte_step bit_steps
    bit_step
others-are = refl

one_frame-sealed : sealed profile rtu 0 one_frame.line
    ≡ record { number = 1; start = 0; frame = READ_TEN_REGISTERS } ∷ []
unfolding bursts_from with_byte before_pause up_to_byte tick_at judged crc byte_step bit_steps
    bit_step
one_frame-sealed = refl
