-- What is made of small lines of DNP3, computed: of a reset of a link that is sent twice without
-- silence in between, and of three resets if only one may wait. Also what is made of a reset with
-- silence inside it, for a device that forgets what it has taken at 18 silent ticks in a row.
use Rattle.frame_ending.specs.Laid.{tick_at}
use Rattle.device_model.specs.{DnpReads.dnp_reads, Hunt.hunt, HuntFamily.dnp_family_reads}
use Rattle.dnp_link_frame.proofs.Rows.{reset_link}
use Rattle.dnp_link_frame.specs.Blocks.{begins_right, is_good_header, end_in_crcs, is_frame}
use Rattle.line_rules.specs.Crc.{bit_step, bit_steps, byte_step, crc}
use Rattle.line_rules.specs.Endings.{ends_in_check}
use Rattle.line_spacer.{proofs.Sending.on_line, specs.Arrivals.arrivals_behind}
use Rattle.line_spacer.specs.Spacing.{sent_from, take_in, spaced, spaced_line, waiting_of}
use Rattle.std.proofs.Common.{◌≡◌, ℕ, List, [], ◌∷◌, ◌++◌, take, drop, refl}
use Rattle.yasir_ticks.specs.Bursts.{with_byte, bursts_from}
use Rattle.yasir_ticks.specs.{Ticks.silent, declared.tick.Tick.Tick}

-- Each is read in its last tick. The first one is sent in the ticks after it, and the second one 21
-- silent ticks after the first.
pub two_are_spaced :
    spaced_line dnp_reads 21 64 (on_line reset_link ++ on_line reset_link ++ silent 34)
    ≡ silent 10 ++ on_line reset_link ++ silent 21 ++ on_line reset_link ++ silent 3
unfolding bit_step bit_steps byte_step crc ends_in_check begins_right is_good_header end_in_crcs
    is_frame hunt tick_at arrivals_behind take_in
two_are_spaced = refl

-- One waits while the first is sent, and the third is lost in the step in which it is read.
pub third_is_lost :
    spaced dnp_reads 21 1 (on_line reset_link ++ on_line reset_link ++ on_line reset_link)
    ≡ record {
      accepted = sent_from 10 reset_link ∷ sent_from 41 reset_link ∷ [];
      lost = record { step = 29; frame = record { start = 20; frame = reset_link } } ∷ [];
    }
unfolding bit_step bit_steps byte_step crc ends_in_check begins_right is_good_header end_in_crcs
    is_frame hunt arrivals_behind take_in
third_is_lost = refl

-- After 19 ticks the second one isn't read yet, after 20 it waits, and from tick 41 on it is sent.
pub one_waits : waiting_of dnp_reads 21 1 (on_line reset_link ++ on_line reset_link) ≡ 1
unfolding bit_step bit_steps byte_step crc ends_in_check begins_right is_good_header end_in_crcs
    is_frame hunt arrivals_behind take_in
one_waits = refl

pub none_waits :
    waiting_of dnp_reads 21 1 (on_line reset_link ++ on_line reset_link ++ silent 22) ≡ 0
unfolding bit_step bit_steps byte_step crc ends_in_check begins_right is_good_header end_in_crcs
    is_frame hunt arrivals_behind take_in
none_waits = refl

-- Silence inside a frame: 17 ticks mean nothing to a device that forgets what it has taken at 18,
-- and what comes after 18 is no frame.
abbrev parted : ℕ → List Tick
parted gap = on_line (take 5 reset_link) ++ silent gap ++ on_line (drop 5 reset_link)

pub parted_by_less : spaced (dnp_family_reads 18) 21 64 (parted 17)
    ≡ record { accepted = sent_from 27 reset_link ∷ []; lost = [] }
unfolding bit_step bit_steps byte_step crc ends_in_check begins_right is_good_header end_in_crcs
    is_frame hunt arrivals_behind take_in with_byte bursts_from
parted_by_less = refl

pub parted_by_more : spaced (dnp_family_reads 18) 21 64 (parted 18)
    ≡ record { accepted = []; lost = [] }
unfolding bit_step bit_steps byte_step crc ends_in_check begins_right is_good_header end_in_crcs
    is_frame hunt arrivals_behind take_in with_byte bursts_from
parted_by_more = refl
