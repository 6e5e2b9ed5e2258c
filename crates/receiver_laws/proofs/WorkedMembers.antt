-- Why a device must be a member of its family: links on which nothing passes, and what devices with
-- other cuts and gaps would read behind the receiver.
use Rattle.frame_ending.specs.Laid.{tick_at}
use Rattle.device_model.specs.{Hunt.hunt, HuntFamily.dnp_family_reads, RtuFamily.rtu_family_reads}
use Rattle.{device_model.specs.RtuReads.has_silence, dnp_link_frame.specs.Blocks.room_by}
use Rattle.dnp_link_frame.specs.Blocks.{begins_right, is_good_header, end_in_crcs, block_start}
use Rattle.dnp_link_frame.specs.{Blocks.is_frame, Blocks.has_right_ending, Rules.dnp_rules}
use Rattle.frame_ending.specs.LiveBytes.{before_pause, up_to_byte}
use Rattle.line_rules.specs.Crc.{crc, byte_step, bit_steps, bit_step}
use Rattle.line_rules.specs.{Endings.ends_in_check, Rules.Rules}
use Rattle.link_format.specs.Profile.{Profile}
use Rattle.link_box.specs.{Checking.passed, Checking.received_line, Emissions.spoiled}
use Rattle.link_box.specs.{Shapes.kept, Verdicts.verdict_of, Verdicts.checked}
use Rattle.rtu_frame.specs.Frame.{is_frame as is_rtu_frame, has_right_ending as ends_rightly}
use Rattle.rtu_frame.specs.Rules.{rtu_rules}
use Rattle.std.proofs.Common.{◌≡◌, ℕ, List, [], ◌∷◌, ◌++◌, map, refl}
use Rattle.yasir_ticks.specs.{Bursts.bursts_from, Bursts.with_byte, Ticks.silent}
use Rattle.yasir_ticks.specs.declared.tick.Tick.{Tick, TheVariants.Byte}

-- The lengths and the limit are those of y18. There is no tag, since none is on these links.
abbrev profile : Profile
profile = record { word_len = 2; tag_len = 12; tag = λ n x. []; limit = 281474976710655 }

abbrev on_line : List ℕ → List Tick
on_line x = map (λ b. Byte b) x

-- a request to read ten registers, in two parts
abbrev FIRST_PART : List ℕ
FIRST_PART = 0x01 ∷ 0x03 ∷ 0x00 ∷ []

abbrev SECOND_PART : List ℕ
SECOND_PART = 0x00 ∷ 0x00 ∷ 0x0A ∷ 0xC5 ∷ 0xCD ∷ []

-- the reset of a link, and the header of a frame of 21 bytes
abbrev RESET_LINK : List ℕ
RESET_LINK = 0x05 ∷ 0x64 ∷ 0x05 ∷ 0xC0 ∷ 0x01 ∷ 0x00 ∷ 0x00 ∷ 0x04 ∷ 0xE9 ∷ 0x21 ∷ []

abbrev LONGER_HEADER : List ℕ
LONGER_HEADER = 0x05 ∷ 0x64 ∷ 0x0E ∷ 0xC4 ∷ 0x01 ∷ 0x00 ∷ 0x00 ∷ 0x04 ∷ 0x7D ∷ 0xA4 ∷ []

abbrev behind : Rules → List Tick → List Tick
behind rules link = received_line profile rules 0 link

-- ---- a frame in two bursts, with as much silence between them as the delay has

abbrev parts : List Tick
parts = on_line FIRST_PART ++ silent 18 ++ on_line SECOND_PART ++ silent 40

parts-none : passed profile rtu_rules 0 parts ≡ []
unfolding bursts_from with_byte before_pause up_to_byte tick_at kept spoiled verdict_of checked crc
    byte_step bit_steps bit_step is_rtu_frame ends_rightly ends_in_check has_silence
parts-none = refl

-- The most patient member reads nothing.
parts-member : rtu_family_reads 18 17 (behind rtu_rules parts) ≡ []
unfolding bursts_from with_byte before_pause up_to_byte tick_at kept spoiled verdict_of checked crc
    byte_step bit_steps bit_step is_rtu_frame ends_rightly ends_in_check has_silence
parts-member = refl

-- A device that waits a tick longer would read the frame.
parts-joined : rtu_family_reads 19 18 (behind rtu_rules parts)
    ≡ record { start = 18; frame = FIRST_PART ++ SECOND_PART } ∷ []
unfolding bursts_from with_byte before_pause up_to_byte tick_at kept spoiled verdict_of checked crc
    byte_step bit_steps bit_step is_rtu_frame ends_rightly ends_in_check has_silence
parts-joined = refl

-- ---- a frame, a silent tick and a byte, which together are one burst

abbrev trailed : List Tick
trailed = on_line (FIRST_PART ++ SECOND_PART) ++ silent 1 ++ on_line (0x00 ∷ []) ++ silent 24

trailed-none : passed profile rtu_rules 0 trailed ≡ []
unfolding bursts_from with_byte before_pause up_to_byte tick_at kept spoiled verdict_of checked crc
    byte_step bit_steps bit_step is_rtu_frame ends_rightly ends_in_check has_silence
trailed-none = refl

-- The least patient member reads nothing.
trailed-member : rtu_family_reads 2 1 (behind rtu_rules trailed) ≡ []
unfolding bursts_from with_byte before_pause up_to_byte tick_at kept spoiled verdict_of checked crc
    byte_step bit_steps bit_step is_rtu_frame ends_rightly ends_in_check has_silence
trailed-member = refl

-- A device for which a single silent tick ends a burst would read the frame.
trailed-parted : rtu_family_reads 1 0 (behind rtu_rules trailed)
    ≡ record { start = 18; frame = FIRST_PART ++ SECOND_PART } ∷ []
unfolding bursts_from with_byte before_pause up_to_byte tick_at kept spoiled verdict_of checked crc
    byte_step bit_steps bit_step is_rtu_frame ends_rightly ends_in_check has_silence
trailed-parted = refl

-- ---- DNP3: a frame inside another one, after a single silent tick

abbrev inside : List Tick
inside = on_line LONGER_HEADER ++ silent 1 ++ on_line RESET_LINK ++ silent 24

inside-none : passed profile dnp_rules 0 inside ≡ []
unfolding bursts_from with_byte before_pause up_to_byte tick_at kept spoiled verdict_of checked crc
    byte_step bit_steps bit_step room_by begins_right is_good_header end_in_crcs block_start
    is_frame has_right_ending ends_in_check hunt
inside-none = refl

inside-member : dnp_family_reads 2 (behind dnp_rules inside) ≡ []
unfolding bursts_from with_byte before_pause up_to_byte tick_at kept spoiled verdict_of checked crc
    byte_step bit_steps bit_step room_by begins_right is_good_header end_in_crcs block_start
    is_frame has_right_ending ends_in_check hunt
inside-member = refl

inside-anew : dnp_family_reads 1 (behind dnp_rules inside)
    ≡ record { start = 29; frame = RESET_LINK } ∷ []
unfolding bursts_from with_byte before_pause up_to_byte tick_at kept spoiled verdict_of checked crc
    byte_step bit_steps bit_step room_by begins_right is_good_header end_in_crcs block_start
    is_frame has_right_ending ends_in_check hunt
inside-anew = refl
