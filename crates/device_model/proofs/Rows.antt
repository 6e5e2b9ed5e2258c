-- What is read from a recorded exchange, computed: a query, the same query with a wrong CRC, and
-- the shortest frame, with one silent tick in it. A burst with two silent ticks in a row isn't
-- read, nor one that is followed by only three silent ticks.
use Rattle.device_model.specs.RtuReads.{has_silence, rtu_reads}
use Rattle.line_rules.specs.Endings.{ends_in_check}
use Rattle.rtu_frame.specs.Crc.{bit_step, bit_steps, byte_step, crc}
use Rattle.rtu_frame.specs.Frame.{is_frame, has_right_ending}
use Rattle.std.proofs.Common.{◌≡◌, List, [], ◌∷◌, ◌++◌, refl}
use Rattle.yasir_ticks.specs.{Bursts.with_byte, Bursts.bursts_from, Ticks.silent}
use Rattle.yasir_ticks.specs.declared.tick.Tick.{Tick, TheVariants.Byte}

abbrev query : List Tick
query = Byte 0x01 ∷ Byte 0x03 ∷ Byte 0x00 ∷ Byte 0x00 ∷ Byte 0x00 ∷ Byte 0x0A ∷ Byte 0xC5
    ∷ Byte 0xCD ∷ []

abbrev damaged : List Tick
damaged = Byte 0x01 ∷ Byte 0x03 ∷ Byte 0x00 ∷ Byte 0x00 ∷ Byte 0x00 ∷ Byte 0x0A ∷ Byte 0xC5
    ∷ Byte 0xCC ∷ []

abbrev least : List Tick
least = Byte 0x01 ∷ Byte 0x03 ∷ (silent 1 ++ Byte 0x40 ∷ Byte 0x21 ∷ [])

abbrev parted : List Tick
parted = Byte 0x01 ∷ Byte 0x03 ∷ (silent 2 ++ Byte 0x40 ∷ Byte 0x21 ∷ [])

pub exchange_read : rtu_reads (query ++ silent 4 ++ damaged ++ silent 4 ++ least ++ silent 4)
    ≡ record { start = 0; frame = 0x01 ∷ 0x03 ∷ 0x00 ∷ 0x00 ∷ 0x00 ∷ 0x0A ∷ 0xC5 ∷ 0xCD ∷ [] }
    ∷ record { start = 24; frame = 0x01 ∷ 0x03 ∷ 0x40 ∷ 0x21 ∷ [] } ∷ []
unfolding bit_step bit_steps byte_step crc is_frame has_right_ending ends_in_check with_byte
    bursts_from
    has_silence
exchange_read = refl

pub parted_unread : rtu_reads (parted ++ silent 4) ≡ []
unfolding bit_step bit_steps byte_step crc is_frame has_right_ending ends_in_check with_byte
    bursts_from
    has_silence
parted_unread = refl

pub open_unread : rtu_reads (query ++ silent 3) ≡ []
unfolding bit_step bit_steps byte_step crc is_frame has_right_ending ends_in_check with_byte
    bursts_from
    has_silence
open_unread = refl
