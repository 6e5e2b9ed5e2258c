-- What each field and each byte of a pcap file leads to. It is a second view of the format of
-- Pcap.antt, and is proved equal to it.
use Rattle.std.specs.Prelude.{◌≡◌, ℕ, ◌+◌, ◌*◌, ◌-◌, ◌==◌, ◌&&◌, nat_lt, nat_le, Bool, true, false}
use Rattle.std.specs.Prelude.{if◌then◌else◌, List, Option, None, Result, Ok, Err}
use Rattle.std.specs.Prelude.{length}
use Rattle.line_stamps.specs.Fields.{Spot, spot_step}
use Rattle.capture_pcap.specs.Words.{number, nanoseconds, is_field}
use Rattle.capture_pcap.specs.BodyStep.{Next, body_field_at, body_byte_at, takes_data, has_more}
use Rattle.capture_pcap.specs.BodyStep.{body_or}
use Rattle.line_stamps.specs.declared.seen.Seen.{Seen}
use Rattle.capture_pcap.specs.declared.body.Body.TheVariants.{Seconds as RtacSeconds}
use Rattle.capture_pcap.specs.declared.words.Clock.{Clock}
use Rattle.capture_pcap.specs.declared.words.Order.{Order}
use Rattle.capture_pcap.specs.declared.words.Order.TheVariants.{Big, Little}
use Rattle.capture_pcap.specs.declared.words.Resolution.{Resolution}
use Rattle.capture_pcap.specs.declared.words.Resolution.TheVariants.{Microseconds, Nanoseconds}
use Rattle.capture_pcap.specs.declared.fault.PcapFault.{PcapFault}
use Rattle.capture_pcap.specs.declared.fault.PcapFault.TheVariants.{Magic as NoMagic}
use Rattle.capture_pcap.specs.declared.fault.PcapFault.TheVariants.{Link as NoLink, Short, Cut}
use Rattle.capture_pcap.specs.declared.stage.Stage.{Stage}
use Rattle.capture_pcap.specs.declared.stage.Stage.TheVariants.{Magic, Free, Link, Seconds}
use Rattle.capture_pcap.specs.declared.stage.Stage.TheVariants.{Fraction, Captured, Original}
use Rattle.capture_pcap.specs.declared.stage.Stage.TheVariants.{Packet, Blocks}
use Rattle.capture_pcap.specs.declared.block.Block.{Block}
use Rattle.capture_pcap.specs.declared.block.Block.TheVariants.{SectionSize}
use Rattle.capture_pcap.specs.BlockStep.{takes_bytes as block_takes_bytes, block_field_at}
use Rattle.capture_pcap.specs.BlockStep.{is_sound_block_step, block_byte_at}
use Rattle.capture_pcap.specs.BlockStep.{may_end as may_end_block}

-- what a field or a byte leads to: what comes next and what was seen, or why it is refused
abbrev pub SteppedPcap : Type 0
SteppedPcap = Result (Stage × Option Seen) PcapFault

-- whether single bytes come next, rather than a field of four
abbrev pub takes_bytes : Stage → Bool
takes_bytes Magic = false
takes_bytes (Free clock before) = false
takes_bytes (Link clock) = false
takes_bytes (Seconds clock) = false
takes_bytes (Fraction clock seconds) = false
takes_bytes (Captured clock start) = false
takes_bytes (Original clock start captured) = false
takes_bytes (Packet clock body) = takes_data body
takes_bytes (Blocks block) = block_takes_bytes block

-- whether a packet has at least its RTAC header, and a byte left if data come next
abbrev pub is_sound_pcap : Stage → Bool
is_sound_pcap Magic = true
is_sound_pcap (Free clock before) = true
is_sound_pcap (Link clock) = true
is_sound_pcap (Seconds clock) = true
is_sound_pcap (Fraction clock seconds) = true
is_sound_pcap (Captured clock start) = true
is_sound_pcap (Original clock start captured) = nat_le 12 captured
is_sound_pcap (Packet clock body) = has_more body
is_sound_pcap (Blocks block) = is_sound_block_step block

-- Holds if a step leads to a sound stage, or refuses.
abbrev pub IsSoundPcapStep : SteppedPcap → Type 0
IsSoundPcapStep (Ok next) = is_sound_pcap next.0 ≡ true
IsSoundPcapStep (Err why) = Unit {0}

-- what comes after the magic number of a pcap file: the first of the four fields that may be
-- anything
abbrev pub free_at : Order → Resolution → SteppedPcap
free_at order resolution = Ok (Free (record { order = order; resolution = resolution }) 0, None)

-- what comes after the magic number of a pcap file, which says the order of numbers and the unit of
-- times
abbrev pub pcap_magic_at : List ℕ → SteppedPcap
pcap_magic_at field =
    if is_field 0xA1 0xB2 0xC3 0xD4 field then free_at Big Microseconds
    else if is_field 0xD4 0xC3 0xB2 0xA1 field then free_at Little Microseconds
    else if is_field 0xA1 0xB2 0x3C 0x4D field then free_at Big Nanoseconds
    else if is_field 0x4D 0x3C 0xB2 0xA1 field then free_at Little Nanoseconds
    else Err NoMagic

-- a pcapng file begins with the header of a section
abbrev pub after_magic_at : List ℕ → SteppedPcap
after_magic_at field =
    if is_field 0x0A 0x0D 0x0D 0x0A field then Ok (Blocks SectionSize, None)
    else pcap_magic_at field

-- what comes after a field or a byte of a packet
abbrev pub after_body : Clock → Next → SteppedPcap
after_body clock next = Ok (body_or (Packet clock) (Seconds clock) next.0, next.1)

-- what comes after a field or a byte of a pcapng file
abbrev pub in_pcap_blocks : Result (Block × Option Seen) PcapFault → SteppedPcap
in_pcap_blocks (Ok next) = Ok (Blocks next.0, next.1)
in_pcap_blocks (Err why) = Err why

-- what comes after the number of bytes that a packet had
abbrev pub after_length : Clock → ℕ → ℕ → ℕ → SteppedPcap
after_length clock start captured original =
    if original == captured then Ok (Packet clock (RtacSeconds start (captured - 12)), None)
    else Err Cut

-- what comes after the link type
abbrev pub after_link : Clock → ℕ → SteppedPcap
after_link clock link = if link == 250 then Ok (Seconds clock, None) else Err NoLink

-- what comes after the number of bytes of a packet that the file has
abbrev pub after_captured : Clock → ℕ → ℕ → SteppedPcap
after_captured clock start captured =
    if nat_lt captured 12 then Err Short else Ok (Original clock start captured, None)

-- what a field of four bytes leads to
unfoldable pub field_at : Stage → List ℕ → SteppedPcap
field_at Magic field = after_magic_at field
field_at (Free clock before) field =
    if nat_lt before 3 then Ok (Free clock (before + 1), None) else Ok (Link clock, None)
field_at (Link clock) field = after_link clock (number clock.order field)
field_at (Seconds clock) field = Ok (Fraction clock (number clock.order field), None)
field_at (Fraction clock seconds) field =
    Ok (
      Captured clock (seconds * 1000000000 + number clock.order field * nanoseconds
          clock.resolution),
      None,
    )
field_at (Captured clock start) field = after_captured clock start (number clock.order field)
field_at (Original clock start captured) field =
    after_length clock start captured (number clock.order field)
field_at (Packet clock body) field = after_body clock (body_field_at body field)
field_at (Blocks block) field = in_pcap_blocks (block_field_at block field)

-- what a single byte leads to
abbrev pub byte_at : Stage → ℕ → SteppedPcap
byte_at Magic b = Err NoMagic
byte_at (Free clock before) b = Err NoMagic
byte_at (Link clock) b = Err NoMagic
byte_at (Seconds clock) b = Err NoMagic
byte_at (Fraction clock seconds) b = Err NoMagic
byte_at (Captured clock start) b = Err NoMagic
byte_at (Original clock start captured) b = Err NoMagic
byte_at (Packet clock body) b = after_body clock (body_byte_at body b)
byte_at (Blocks block) b = in_pcap_blocks (block_byte_at block b)

-- whether a file may end here
abbrev pub pcap_may_end : Stage → Bool
pcap_may_end Magic = false
pcap_may_end (Free clock before) = false
pcap_may_end (Link clock) = false
pcap_may_end (Seconds clock) = true
pcap_may_end (Fraction clock seconds) = false
pcap_may_end (Captured clock start) = false
pcap_may_end (Original clock start captured) = false
pcap_may_end (Packet clock body) = false
pcap_may_end (Blocks block) = may_end_block block

-- what one byte of a file leads to
abbrev pub step_at : Spot Stage → ℕ → Result (Spot Stage × Option Seen) PcapFault
step_at = spot_step takes_bytes field_at byte_at

-- whether a file may end here: before a packet or a block, with no byte of a field taken
abbrev pub may_end_at : Spot Stage → Bool
may_end_at spot = pcap_may_end spot.stage && (length spot.partial == 0)
