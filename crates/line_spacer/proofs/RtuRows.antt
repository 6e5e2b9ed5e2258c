-- What is made of two queries of Modbus RTU with only as much silence between them as ends the
-- first one, computed.
use Rattle.frame_ending.specs.Laid.{tick_at}
use Rattle.device_model.specs.RtuReads.{has_silence, rtu_reads}
use Rattle.{line_rules.specs.Endings.ends_in_check, line_spacer.proofs.Sending.on_line}
use Rattle.line_spacer.specs.{Arrivals.arrivals_behind, Spacing.take_in, Spacing.spaced_line}
use Rattle.rtu_frame.specs.Crc.{bit_step, bit_steps, byte_step, crc}
use Rattle.rtu_frame.specs.Frame.{is_frame, has_right_ending}
use Rattle.std.proofs.Common.{◌≡◌, ℕ, List, [], ◌∷◌, ◌++◌, refl}
use Rattle.yasir_ticks.specs.{Bursts.with_byte, Bursts.bursts_from, Ticks.silent}

abbrev read_ten : List ℕ
read_ten = 0x01 ∷ 0x03 ∷ 0x00 ∷ 0x00 ∷ 0x00 ∷ 0x0A ∷ 0xC5 ∷ 0xCD ∷ []

abbrev read_one : List ℕ
read_one = 0x01 ∷ 0x03 ∷ 0x00 ∷ 0x00 ∷ 0x00 ∷ 0x01 ∷ 0x84 ∷ 0x0A ∷ []

-- Each is read in the fourth silent tick after it, and sent from the next tick on, the second one
-- 21 silent ticks after the first.
pub two_are_spaced :
    spaced_line rtu_reads 21 64 (on_line read_ten ++ silent 4 ++ on_line read_one ++ silent 31)
    ≡ silent 12 ++ on_line read_ten ++ silent 21 ++ on_line read_one ++ silent 2
unfolding bit_step bit_steps byte_step crc is_frame has_right_ending ends_in_check with_byte
    bursts_from has_silence tick_at arrivals_behind take_in
two_are_spaced = refl
