-- Two stations on one line, and a frame that names a third: what the control centre's transmitter
-- seals, what each station's box makes of the link, and what the centre's own receiver would.
-- The tags are those of HMAC over SHA-1 under two keys, for the two frames of the row.
use Rattle.frame_ending.proofs.BurstRows.{noted_at}
use Rattle.frame_ending.specs.{Laid.tick_at, Walk.notes_of}
use Rattle.frame_ending.specs.LiveBytes.{before_pause, up_to_byte}
use Rattle.line_rules.specs.Crc.{crc, byte_step, bit_steps, bit_step}
use Rattle.link_format.proofs.Worked.{rtu, profile_with, on_line, READ_TEN_REGISTERS}
use Rattle.link_format.specs.Profile.{Profile}
use Rattle.link_box.specs.Checking.{check_notes}
use Rattle.link_box.specs.Checking.FullNote.{passed_note, refused_note}
use Rattle.link_box.specs.Sealing.{judged}
use Rattle.link_box.specs.Sealing.FullNote.{sealed_note, unsealed_note}
use Rattle.link_box.specs.{Emissions.spoiled, Shapes.kept, Verdicts.verdict_of, Verdicts.checked}
use Rattle.link_box.specs.declared.check_note.RefusedWhy.TheVariants.{Number, Tag, Trailer}
use Rattle.link_box.specs.declared.seal_note.UnsealedWhy.TheVariants.{Spent}
use Rattle.std.proofs.Common.{◌≡◌, ◌==◌, ℕ, List, [], ◌∷◌, ◌++◌, refl, if◌then◌else◌, replicate}
use Rattle.std.proofs.Common.{get_or}
use Rattle.yasir_ticks.specs.Bursts.{bursts_from, with_byte}
use Rattle.yasir_ticks.specs.{Ticks.silent, declared.tick.Tick.Tick}
use Rattle.stations.specs.Shared.{at_floors, shared, sealing_box, checking_box, sent_line}
use Rattle.stations.specs.Table.{StationEntry, table_floor, table_tags, profile_for, by_station}

-- frames of the stations 2 and 3
abbrev TO_SECOND : List ℕ
TO_SECOND = 0x02 ∷ 0x03 ∷ 0x00 ∷ 0x00 ∷ 0x00 ∷ 0x0A ∷ 0xC5 ∷ 0xFE ∷ []

abbrev TO_THIRD : List ℕ
TO_THIRD = 0x03 ∷ 0x03 ∷ 0x00 ∷ 0x00 ∷ 0x00 ∷ 0x0A ∷ 0xC4 ∷ 0x2F ∷ []

abbrev FIRST_TAG : List ℕ
FIRST_TAG = 0xF5 ∷ 0x40 ∷ 0xF7 ∷ 0x5C ∷ 0xC2 ∷ 0x0F ∷ 0x30 ∷ 0xC4 ∷ 0xA5 ∷ 0x3B ∷ 0x39 ∷ 0xA7 ∷ []

abbrev SECOND_TAG : List ℕ
SECOND_TAG = 0x62 ∷ 0x8B ∷ 0xFA ∷ 0x2B ∷ 0xCC ∷ 0x75 ∷ 0x14 ∷ 0xD1 ∷ 0x5E ∷ 0x05 ∷ 0x4F ∷ 0x2D ∷ []

-- the keys are eight times 6b31 and eight times 6b32
abbrev table : List StationEntry
table =
    record { name = 1; key = 0x6B ∷ 0x31 ∷ []; floor = 0 }
    ∷ record { name = 2; key = 0x6B ∷ 0x32 ∷ []; floor = 4 } ∷ []

-- the tags that are needed for the row: that of a key's own frame, and others
abbrev tag_under : List ℕ → ℕ → List ℕ → List ℕ
tag_under key number frame =
    if get_or key 1 0 == 0x31 then (if get_or frame 0 0 == 1 then FIRST_TAG else replicate 12 0xEE)
    else (if get_or frame 0 0 == 2 then SECOND_TAG else replicate 12 0xEE)

abbrev station : List ℕ → ℕ
station frame = get_or frame 0 0

abbrev profile : Profile
profile = profile_with 2 12

abbrev floors : ℕ → ℕ
floors = table_floor profile.limit table

abbrev centre : Profile
centre = by_station profile (table_tags tag_under table) station

abbrev box : ℕ → Profile
box i = profile_for profile (table_tags tag_under table) i

-- requests to each station
abbrev LINE : List Tick
LINE = on_line READ_TEN_REGISTERS ++ silent 40 ++ on_line TO_SECOND ++ silent 40
    ++ on_line TO_THIRD ++ silent 24

abbrev FIRST_PACKET : List Tick
FIRST_PACKET = on_line READ_TEN_REGISTERS ++ silent 3 ++ on_line (0x00 ∷ 0x01 ∷ FIRST_TAG)

abbrev SECOND_PACKET : List Tick
SECOND_PACKET = on_line TO_SECOND ++ silent 3 ++ on_line (0x00 ∷ 0x05 ∷ SECOND_TAG)

abbrev LINK : List Tick
LINK = FIRST_PACKET ++ silent 23 ++ SECOND_PACKET ++ silent 23 ++ on_line TO_THIRD ++ silent 24

-- ---- the control centre's transmitter

sealed-notes : notes_of (shared station rtu (sealing_box centre rtu)) (at_floors floors) LINE
    ≡ noted_at 11 (sealed_note 1 0 READ_TEN_REGISTERS) ∷ noted_at 59 (sealed_note 5 48 TO_SECOND)
    ∷ noted_at 107 (unsealed_note 96 Spent) ∷ []
unfolding bursts_from with_byte before_pause up_to_byte tick_at judged crc byte_step bit_steps
    bit_step
sealed-notes = refl

link-is : sent_line station centre rtu floors LINE ≡ LINK
unfolding bursts_from with_byte before_pause up_to_byte tick_at judged crc byte_step bit_steps
    bit_step
link-is = refl

-- ---- each station's box

first-notes : check_notes (box 1) rtu 0 LINK
    ≡ noted_at 24 (passed_note 1 0 READ_TEN_REGISTERS) ∷ noted_at 72 (refused_note 48 Tag)
    ∷ noted_at 107 (refused_note 96 Trailer) ∷ []
unfolding bursts_from with_byte before_pause up_to_byte tick_at kept spoiled verdict_of checked crc
    byte_step bit_steps bit_step
first-notes = refl

second-notes : check_notes (box 2) rtu 4 LINK
    ≡ noted_at 24 (refused_note 0 Tag) ∷ noted_at 72 (passed_note 5 48 TO_SECOND)
    ∷ noted_at 107 (refused_note 96 Trailer) ∷ []
unfolding bursts_from with_byte before_pause up_to_byte tick_at kept spoiled verdict_of checked crc
    byte_step bit_steps bit_step
second-notes = refl

-- ---- a receiver that has both keys, and a packet that names station 3

-- the packet has a tag that station 1's key would give it
abbrev THIRD_PACKET : List Tick
THIRD_PACKET = on_line TO_THIRD ++ silent 3 ++ on_line (0x00 ∷ 0x01 ∷ replicate 12 0xEE)

abbrev REPLIES : List Tick
REPLIES = SECOND_PACKET ++ silent 23 ++ THIRD_PACKET ++ silent 23 ++ FIRST_PACKET ++ silent 24

centre-notes : notes_of (shared station rtu (checking_box centre rtu)) (at_floors floors) REPLIES
    ≡ noted_at 24 (passed_note 5 0 TO_SECOND) ∷ noted_at 72 (refused_note 48 Number)
    ∷ noted_at 120 (passed_note 1 96 READ_TEN_REGISTERS) ∷ []
unfolding bursts_from with_byte before_pause up_to_byte tick_at kept spoiled verdict_of checked crc
    byte_step bit_steps bit_step
centre-notes = refl
