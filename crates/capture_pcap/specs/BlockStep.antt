-- What each field and each byte of a pcapng file leads to. It is a second view of the format of
-- Blocks.antt.
use Rattle.std.specs.Prelude.{◌≡◌, ℕ, ◌+◌, ◌*◌, ◌-◌, ◌/◌, ◌%◌, ◌^◌, ◌==◌, ◌&&◌, ◌||◌, nat_lt, nat_le}
use Rattle.std.specs.Prelude.{Bool, true, false, if◌then◌else◌, List, Option, Some, None}
use Rattle.std.specs.Prelude.{Result, Ok, Err, slice_index, drop}
use Rattle.capture_pcap.specs.Words.{number, short_number, is_field}
use Rattle.capture_pcap.specs.Blocks.{counts_at, padded, section_with, fresh}
use Rattle.capture_pcap.specs.BodyStep.{Next, body_field_at, body_byte_at, takes_data, has_more}
use Rattle.capture_pcap.specs.BodyStep.{body_or}
use Rattle.line_stamps.specs.declared.seen.Seen.{Seen}
use Rattle.capture_pcap.specs.declared.body.Body.TheVariants.{Seconds as RtacSeconds}
use Rattle.capture_pcap.specs.declared.words.Order.{Order}
use Rattle.capture_pcap.specs.declared.words.Order.TheVariants.{Big, Little}
use Rattle.capture_pcap.specs.declared.fault.PcapFault.{PcapFault}
use Rattle.capture_pcap.specs.declared.fault.PcapFault.TheVariants.{Magic as NoMagic}
use Rattle.capture_pcap.specs.declared.fault.PcapFault.TheVariants.{Link as NoLink, Short, Cut}
use Rattle.capture_pcap.specs.declared.fault.PcapFault.TheVariants.{Order as NoOrder}
use Rattle.capture_pcap.specs.declared.fault.PcapFault.TheVariants.{Size as WrongSize, Timeless}
use Rattle.capture_pcap.specs.declared.fault.PcapFault.TheVariants.{Resolution as OtherResolution}
use Rattle.capture_pcap.specs.declared.fault.PcapFault.TheVariants.{Option as WrongOption}
use Rattle.capture_pcap.specs.declared.fault.PcapFault.TheVariants.{Interface as NoInterface, Late}
use Rattle.capture_pcap.specs.declared.block.Section.{Section}
use Rattle.capture_pcap.specs.declared.block.Kind.{Kind}
use Rattle.capture_pcap.specs.declared.block.Kind.TheVariants.{Interface as InterfaceKind}
use Rattle.capture_pcap.specs.declared.block.Kind.TheVariants.{Packet as PacketKind}
use Rattle.capture_pcap.specs.declared.block.Kind.TheVariants.{Other as OtherKind}
use Rattle.capture_pcap.specs.declared.block.Block.{Block}
use Rattle.capture_pcap.specs.declared.block.Block.TheVariants as b

-- what a field or a byte leads to: what comes next and what was seen, or why it is refused
abbrev pub SteppedBlock : Type 0
SteppedBlock = Result (Block × Option Seen) PcapFault

-- whether single bytes come next, rather than a field of four
abbrev pub takes_bytes : Block → Bool
takes_bytes (b.Packet section size left body) = takes_data body
takes_bytes (b.Unread section size left) = true
takes_bytes _ = false

-- whether a number may be the length of a block that has at least this many bytes
abbrev pub is_size : ℕ → ℕ → Bool
is_size size least = nat_le least size && (size % 4 == 0)

-- whether a section may have a block of this kind
abbrev pub has_room : Section → Kind → Bool
has_room section InterfaceKind = nat_lt section.interfaces 4294967295
has_room section PacketKind =
    nat_lt section.first section.interfaces && nat_lt section.first 4294967296
has_room section OtherKind = true

-- whether a field of a section's header or of an interface comes next, or the kind or the length of
-- a block
abbrev pub is_head : Block → Bool
is_head b.SectionSize = true
is_head (b.SectionOrder big little) = true
is_head (b.Kind section) = true
is_head (b.Size section kind) = true
is_head (b.Link section size) = true
is_head (b.Snap section size) = true
is_head (b.Option section size left counts) = true
is_head (b.Value section size left counts fields) = true
is_head (b.Resolution section size left) = true
is_head _ = false

-- whether a section may have one more interface
abbrev pub in_interface : Section → Bool
in_interface section = nat_lt section.interfaces 4294967295

-- whether the numbers that a place has are within the bounds that each step keeps
abbrev pub is_sound_block_step : Block → Bool
is_sound_block_step (b.Size section kind) = has_room section kind
is_sound_block_step (b.Snap section size) = nat_le 20 size && in_interface section
is_sound_block_step (b.Link section size) = nat_le 20 size && in_interface section
is_sound_block_step (b.Option section size left counts) =
    nat_lt 0 left && nat_lt (4 * left) (2 ^ 32) && in_interface section
is_sound_block_step (b.Value section size left counts fields) =
    nat_lt 0 fields && nat_lt (4 * left) (2 ^ 32) && in_interface section
is_sound_block_step (b.Resolution section size left) =
    nat_lt 0 left && nat_lt (4 * left) (2 ^ 32) && in_interface section
is_sound_block_step (b.Interface section size) = nat_le 44 size
is_sound_block_step (b.High section size) = nat_le 44 size
is_sound_block_step (b.Low section size high) =
    nat_le 44 size && nat_lt (high * 4294967296 * section.counts) (2 ^ 64)
is_sound_block_step (b.Captured section size start) = nat_le 44 size
is_sound_block_step (b.Original section size start captured) =
    nat_le 12 captured && nat_le (captured + 32) size
is_sound_block_step (b.Packet section size left body) = has_more body
is_sound_block_step (b.Unread section size left) = nat_lt 0 left
is_sound_block_step b.SectionSize = true
is_sound_block_step (b.SectionOrder big little) = is_size big 28 || is_size little 28
is_sound_block_step (b.Kind section) = true
is_sound_block_step (b.End section size) = true

-- Holds if a step leads to a sound place, or refuses.
abbrev pub IsSoundBlock : SteppedBlock → Type 0
IsSoundBlock (Ok next) = is_sound_block_step next.0 ≡ true
IsSoundBlock (Err why) = Unit {0}

-- what comes next if this many bytes that say nothing of the line come before the end of the block
abbrev pub unread_or_end : Section → ℕ → ℕ → Block
unread_or_end section size left =
    if nat_lt 0 left then b.Unread section size left else b.End section size

-- what comes after the order of a section whose header has this length
abbrev pub in_section : Order → ℕ → SteppedBlock
in_section order size =
    if is_size size 28
    then Ok (
      unread_or_end (fresh order) size (size - 16),
      None,
    )
    else Err WrongSize

-- what comes after the order of a section, whose header has the first length if it is big-endian,
-- and otherwise the second one
abbrev pub after_order : List ℕ → ℕ → ℕ → SteppedBlock
after_order field big little =
    if is_field 0x1A 0x2B 0x3C 0x4D field then in_section Big big
    else if is_field 0x4D 0x3C 0x2B 0x1A field then in_section Little little
    else Err NoOrder

-- what comes after the kind of a block that isn't the header of a section
abbrev pub of_kind : Section → ℕ → SteppedBlock
of_kind section kind =
    if (kind == 1) && has_room section InterfaceKind
    then Ok (b.Size section InterfaceKind, None)
    else if (kind == 6) && has_room section PacketKind
    then Ok (b.Size section PacketKind, None)
    else if kind == 1 || kind == 6 then Err NoInterface
    else if kind == 2 || kind == 3 then Err Timeless
    else Ok (b.Size section OtherKind, None)

-- what comes after the kind of a block
abbrev pub after_kind : Section → List ℕ → SteppedBlock
after_kind section field =
    if is_field 0x0A 0x0D 0x0D 0x0A field then Ok (b.SectionSize, None)
    else of_kind section (number section.order field)

-- what comes after the length of a block
abbrev pub after_size : Section → Kind → ℕ → SteppedBlock
after_size section InterfaceKind size =
    if is_size size 20 then Ok (b.Link section size, None) else Err WrongSize
after_size section PacketKind size =
    if is_size size 44 then Ok (b.Interface section size, None) else Err WrongSize
after_size section OtherKind size =
    if is_size size 12 then Ok (unread_or_end section size (size - 12), None) else Err WrongSize

-- what comes after the link type of an interface
abbrev pub after_link : Section → ℕ → ℕ → SteppedBlock
after_link section size link =
    if link == 250 then Ok (b.Snap section size, None) else Err NoLink

-- what comes after the options of an interface, if this many fields that aren't read follow them
abbrev pub after_options : Section → ℕ → ℕ → ℕ → SteppedBlock
after_options section size left counts =
    Ok (unread_or_end (section_with section counts) size (4 * left), None)

-- what comes after an option, if this many fields are left of the options
abbrev pub next_option_at : Section → ℕ → ℕ → ℕ → SteppedBlock
next_option_at section size left counts =
    if left == 0 then after_options section size left counts
    else Ok (b.Option section size left counts, None)

-- what comes after the head of an option whose value has this many of the fields that are left
abbrev pub over_fields : Section → ℕ → ℕ → ℕ → ℕ → SteppedBlock
over_fields section size left counts fields =
    if fields == 0 then next_option_at section size left counts
    else Ok (b.Value section size (left - fields) counts fields, None)

-- what comes after the head of an option, if this many fields are left after the head
abbrev pub after_option : Section → ℕ → ℕ → ℕ → List ℕ → SteppedBlock
after_option section size left counts field =
    let code = short_number section.order field in
    let long = short_number section.order (drop 2 field) in
    let fields = (long + 3) / 4 in
    if code == 0 then after_options section size left counts
    else if code == 9
    then (if (long == 1) && nat_lt 0 left then Ok (b.Resolution section size left, None)
    else Err OtherResolution)
    else if code == 14 || nat_lt left fields then Err WrongOption
    else over_fields section size left counts fields

-- what comes after a field of an option's value, if this many fields of the value were left, that
-- one included
abbrev pub after_value : Section → ℕ → ℕ → ℕ → ℕ → SteppedBlock
after_value section size left counts fields =
    if nat_lt 1 fields then Ok (b.Value section size left counts (fields - 1), None)
    else next_option_at section size left counts

-- what comes after the resolution of an interface's times, given how many nanoseconds a unit is, if
-- it is a resolution that may be
abbrev pub at_resolution : Section → ℕ → ℕ → Option ℕ → SteppedBlock
at_resolution section size left (Some counts) = next_option_at section size (left - 1) counts
at_resolution section size left None = Err OtherResolution

-- what comes after the resolution of an interface's times, with 10 to this power of units in a
-- second
abbrev pub after_resolution : Section → ℕ → ℕ → ℕ → SteppedBlock
after_resolution section size left digits = at_resolution section size left (counts_at digits)

-- what comes after the time of a packet
abbrev pub after_low : Section → ℕ → ℕ → ℕ → SteppedBlock
after_low section size high low =
    let start = (high * 4294967296 + low) * section.counts in
    if nat_lt start (2 ^ 64) then Ok (b.Captured section size start, None) else Err Late

-- what comes after the number of bytes of a packet that the file has
abbrev pub after_captured : Section → ℕ → ℕ → ℕ → SteppedBlock
after_captured section size start captured =
    if nat_lt captured 12 then Err Short
    else if nat_lt size (padded captured + 32) then Err WrongSize
    else Ok (b.Original section size start captured, None)

-- what comes after the number of bytes that a packet had
abbrev pub after_original : Section → ℕ → ℕ → ℕ → ℕ → SteppedBlock
after_original section size start captured original =
    if original == captured
    then Ok (b.Packet section size (size - 32 - captured) (RtacSeconds start (captured - 12)), None)
    else Err Cut

-- what comes after a field or a byte of a packet
abbrev pub after_body : Section → ℕ → ℕ → Next → SteppedBlock
after_body section size left next =
    Ok (body_or (b.Packet section size left) (unread_or_end section size left) next.0, next.1)

-- what comes after the interface of a packet
abbrev pub after_interface : Section → ℕ → ℕ → SteppedBlock
after_interface section size interface =
    if nat_le section.first interface && nat_lt interface section.interfaces
    then Ok (b.High section size, None) else Err NoInterface

-- what comes after the high half of a packet's time
abbrev pub after_high : Section → ℕ → ℕ → SteppedBlock
after_high section size high =
    if nat_lt (high * 4294967296 * section.counts) (2 ^ 64)
    then Ok (b.Low section size high, None) else Err Late

-- what comes after the length of a section's header, which is the first number if the section is
-- big-endian, and otherwise the second one
abbrev pub after_section_size : ℕ → ℕ → SteppedBlock
after_section_size big little =
    if is_size big 28 || is_size little 28 then Ok (b.SectionOrder big little, None)
    else Err WrongSize

-- what comes after the length at the end of a block, which must be the one at its beginning
abbrev pub after_end : Section → ℕ → ℕ → SteppedBlock
after_end section size again = if again == size then Ok (b.Kind section, None) else Err WrongSize

-- what a field of four bytes leads to
unfoldable pub block_field_at : Block → List ℕ → SteppedBlock
block_field_at b.SectionSize field =
    after_section_size (number Big field) (number Little field)
block_field_at (b.SectionOrder big little) field = after_order field big little
block_field_at (b.Kind section) field = after_kind section field
block_field_at (b.Size section kind) field = after_size section kind (number section.order field)
block_field_at (b.Link section size) field =
    after_link section size (short_number section.order field)
block_field_at (b.Snap section size) field = next_option_at section size ((size - 20) / 4) 1000
block_field_at (b.Option section size left counts) field =
    after_option section size (left - 1) counts field
block_field_at (b.Value section size left counts fields) field =
    after_value section size left counts fields
block_field_at (b.Resolution section size left) field =
    after_resolution section size left (slice_index field 0)
block_field_at (b.Interface section size) field =
    after_interface section size (number section.order field)
block_field_at (b.High section size) field =
    after_high section size (number section.order field)
block_field_at (b.Low section size high) field =
    after_low section size high (number section.order field)
block_field_at (b.Captured section size start) field =
    after_captured section size start (number section.order field)
block_field_at (b.Original section size start captured) field =
    after_original section size start captured (number section.order field)
block_field_at (b.Packet section size left body) field =
    after_body section size left (body_field_at body field)
block_field_at (b.Unread section size left) field = Err NoMagic
block_field_at (b.End section size) field =
    after_end section size (number section.order field)

-- what a single byte leads to
abbrev pub block_byte_at : Block → ℕ → SteppedBlock
block_byte_at (b.Packet section size left body) byte =
    after_body section size left (body_byte_at body byte)
block_byte_at (b.Unread section size left) byte = Ok (unread_or_end section size (left - 1), None)
block_byte_at _ byte = Err NoMagic

-- whether a file may end here, which it may only before a block
abbrev pub may_end : Block → Bool
may_end (b.Kind section) = true
may_end _ = false
