-- What must hold at the place of a reader, so that its pcapng file can still have a right end.
use Rattle.capture_pcap.specs.BlockStep.{SteppedBlock, takes_bytes, unread_or_end, is_size, in_section}
use Rattle.capture_pcap.specs.BlockStep.{after_order, after_kind, after_size, after_options}
use Rattle.capture_pcap.specs.BlockStep.{next_option_at, over_fields, has_room, after_option}
use Rattle.capture_pcap.specs.BlockStep.{after_value, at_resolution, block_field_at, block_byte_at}
use Rattle.capture_pcap.specs.Blocks.{counts_at, section_with, fresh, padded}
use Rattle.capture_pcap.specs.BodyStep.{takes_data, has_more, body_field_at, body_byte_at, body_or}
use Rattle.capture_pcap.specs.{BodyStep.data_of, Words.number, Words.short_number, Words.is_field}
use Rattle.capture_pcap.specs.declared.block.Block.{Block}
use Rattle.capture_pcap.specs.declared.block.Kind.{Kind, TheVariants.Interface as InterfaceKind}
use Rattle.capture_pcap.specs.declared.block.Kind.TheVariants.{Packet as PacketKind}
use Rattle.capture_pcap.specs.declared.block.{Kind.TheVariants.Other as OtherKind, Section.Section}
use Rattle.capture_pcap.specs.declared.body.Body.{Body, TheVariants.Seconds as RtacSeconds}
use Rattle.capture_pcap.specs.declared.body.Body.TheVariants.{Fraction as RtacFraction, Event, Data}
use Rattle.capture_pcap.specs.declared.fault.PcapFault.TheVariants.{Link as NoLink, Short, Cut}
use Rattle.capture_pcap.specs.declared.fault.PcapFault.TheVariants.{Order as NoOrder}
use Rattle.capture_pcap.specs.declared.fault.PcapFault.TheVariants.{Size as WrongSize, Timeless}
use Rattle.capture_pcap.specs.declared.fault.PcapFault.TheVariants.{Resolution as OtherResolution}
use Rattle.capture_pcap.specs.declared.fault.PcapFault.TheVariants.{Option as WrongOption}
use Rattle.capture_pcap.specs.declared.fault.PcapFault.TheVariants.{Interface as NoInterface, Late}
use Rattle.capture_pcap.specs.declared.words.Order.{Order, TheVariants.Big, TheVariants.Little}
use Rattle.line_stamps.specs.declared.capture.Way.{Way}
use Rattle.std.proofs.Common.{◌≡◌, ℕ, ◌+◌, ◌*◌, ◌-◌, ◌<◌, ◌≤◌, ◌^◌, ◌/◌, ◌%◌, ◌==◌, ◌&&◌, ◌||◌}
use Rattle.std.proofs.Common.{nat_lt, nat_le, Bool, true, false, List, length, Option, Some, None}
use Rattle.std.proofs.Common.{Ok, Err, refl, arith, slice_index, drop}
use Rattle.std.proofs.lemmas.Bool.{ltb-true, leb-true, cond_both, and_parts}
use Rattle.capture_pcap.specs.declared.block.Block.TheVariants as b

-- a field that has come, with this number
pub record HasField (order : Order) (n : ℕ) : Type 0 where
  pub field : List ℕ
  pub long : length field ≡ 4
  pub is : number order field ≡ n

-- a field that has come, with the one number if it is big-endian and the other one if it isn't
pub record HasBoth (big little : ℕ) : Type 0 where
  pub field : List ℕ
  pub long : length field ≡ 4
  pub is_big : number Big field ≡ big
  pub is_little : number Little field ≡ little

abbrev pub Live : Block → Type 0
Live b.SectionSize = Unit {0}
Live (b.SectionOrder big little) = HasBoth big little × ((is_size big 28 || is_size little 28) ≡ true)
Live (b.Kind s) = Unit {0}
Live (b.Size s kind) = has_room s kind ≡ true
Live (b.Link s size) = HasField s.order size
Live (b.Snap s size) = HasField s.order size
Live (b.Option s size left counts) = HasField s.order size × (0 < left)
Live (b.Value s size left counts fields) = HasField s.order size × (0 < fields)
Live (b.Resolution s size left) = HasField s.order size × (0 < left)
Live (b.Interface s size) = HasField s.order size × (s.first < s.interfaces)
    × (s.first < 256 ^ 4) × (44 ≤ size)
Live (b.High s size) = HasField s.order size × (44 ≤ size)
Live (b.Low s size high) =
    HasField s.order size × (44 ≤ size) × (high * 4294967296 * s.counts < 2 ^ 64)
Live (b.Captured s size start) = HasField s.order size × (44 ≤ size)
Live (b.Original s size start captured) = HasField s.order size × HasField s.order captured
Live (b.Packet s size left body) = HasField s.order size × (has_more body ≡ true)
Live (b.Unread s size left) = HasField s.order size × (0 < left)
Live (b.End s size) = HasField s.order size

abbrev pub LiveStep : SteppedBlock → Type 0
LiveStep (Ok next) = Live next.0
LiveStep (Err why) = Unit {0}

live_rest : (s : Section) (size left : ℕ) → HasField s.order size → Live (unread_or_end s size left)
live_rest s size left f =
    cond_both (nat_lt 0 left) (b.Unread s size left) (b.End s size) Live
    (λ e. (f, ltb-true 0 left e)) (λ e. f)

live_next : (s : Section) (size left counts : ℕ) → HasField s.order size
    → LiveStep (next_option_at s size left counts)
live_next s size left counts f =
    cond_both (left == 0) (after_options s size left counts) (Ok (b.Option s size left counts, None))
    LiveStep (λ e. live_rest (section_with s counts) size (4 * left) f)
    (λ e. (f, some_of left e))
  where
    some_of : (n : ℕ) → (n == 0) ≡ false → 0 < n
    some_of n e = grind arith

some_of : (n : ℕ) → (n == 0) ≡ false → 0 < n
some_of n e = grind arith

live_over : (s : Section) (size left counts fields : ℕ) → HasField s.order size
    → LiveStep (over_fields s size left counts fields)
live_over s size left counts fields f =
    cond_both (fields == 0) (next_option_at s size left counts)
    (Ok (b.Value s size (left - fields) counts fields, None)) LiveStep
    (λ e. live_next s size left counts f) (λ e. (f, some_of fields e))

live_option : (s : Section) (size left counts : ℕ) (field : List ℕ) → HasField s.order size
    → LiveStep (after_option s size left counts field)
live_option s size left counts field f =
    let code : ℕ = short_number s.order field in
    let long : ℕ = short_number s.order (drop 2 field) in
    cond_both (code == 0) (after_options s size left counts) _ LiveStep
    (λ e. live_rest (section_with s counts) size (4 * left) f)
    (λ e. cond_both (code == 9) _ _ LiveStep
    (λ g. cond_both ((long == 1) && nat_lt 0 left) (Ok (b.Resolution s size left, None))
    (Err OtherResolution) LiveStep
    (λ h. (f, ltb-true 0 left (and_parts (long == 1) (nat_lt 0 left) h).1)) (λ h. tt))
    (λ g. cond_both (code == 14 || nat_lt left ((long + 3) / 4)) (Err WrongOption) _ LiveStep
    (λ h. tt) (λ h. live_over s size left counts ((long + 3) / 4) f)))

live_value : (s : Section) (size left counts fields : ℕ) → HasField s.order size
    → LiveStep (after_value s size left counts fields)
live_value s size left counts fields f =
    cond_both (nat_lt 1 fields) (Ok (b.Value s size left counts (fields - 1), None))
    (next_option_at s size left counts) LiveStep
    (λ e. (f, omega (arith, ltb-true 1 fields e))) (λ e. live_next s size left counts f)

live_resolution : (s : Section) (size left : ℕ) (o : Option ℕ) → HasField s.order size
    → LiveStep (at_resolution s size left o)
live_resolution s size left (Some counts) f = live_next s size (left - 1) counts f
live_resolution s size left None f = tt

live_in : (order : Order) (size : ℕ) → HasField order size → LiveStep (in_section order size)
live_in order size f =
    cond_both (is_size size 28) (Ok (unread_or_end (fresh order) size (size - 16), None)) (Err WrongSize)
    LiveStep (λ e. live_rest (fresh order) size (size - 16) f) (λ e. tt)

live_order : (big little : ℕ) (field : List ℕ) → HasBoth big little
    → LiveStep (after_order field big little)
live_order big little field h =
    cond_both (is_field 0x1A 0x2B 0x3C 0x4D field) (in_section Big big) _ LiveStep
    (λ e. live_in Big big (record { field = h.field; long = h.long; is = h.is_big }))
    (λ e. cond_both (is_field 0x4D 0x3C 0x2B 0x1A field) (in_section Little little) (Err NoOrder)
    LiveStep
    (λ f. live_in Little little (record { field = h.field; long = h.long; is = h.is_little }))
    (λ f. tt))

live_kind : (s : Section) (field : List ℕ) → LiveStep (after_kind s field)
live_kind s field =
    let kind : ℕ = number s.order field in
    cond_both (is_field 0x0A 0x0D 0x0D 0x0A field) (Ok (b.SectionSize, None)) _ LiveStep (λ e. tt)
    (λ e. cond_both ((kind == 1) && has_room s InterfaceKind) (Ok (b.Size s InterfaceKind, None)) _
    LiveStep (λ f. (and_parts (kind == 1) (has_room s InterfaceKind) f).1)
    (λ f. cond_both ((kind == 6) && has_room s PacketKind) (Ok (b.Size s PacketKind, None)) _
    LiveStep (λ g. (and_parts (kind == 6) (has_room s PacketKind) g).1)
    (λ g. cond_both (kind == 1 || kind == 6) (Err NoInterface) _ LiveStep (λ h. tt)
    (λ h. cond_both (kind == 2 || kind == 3) (Err Timeless) (Ok (b.Size s OtherKind, None))
    LiveStep (λ i. tt) (λ i. refl)))))

live_size : (s : Section) (kind : Kind) (field : List ℕ) → has_room s kind ≡ true
    → length field ≡ 4 → LiveStep (after_size s kind (number s.order field))
live_size s InterfaceKind field h four =
    let size : ℕ = number s.order field in
    cond_both (is_size size 20) (Ok (b.Link s size, None)) (Err WrongSize) LiveStep
    (λ e. record { field = field; long = four; is = refl }) (λ e. tt)
live_size s PacketKind field h four =
    let size : ℕ = number s.order field in
    cond_both (is_size size 44) (Ok (b.Interface s size, None)) (Err WrongSize) LiveStep
    (λ e. let room = and_parts (nat_lt s.first s.interfaces) (nat_lt s.first 4294967296) h in (
      record { field = field; long = four; is = refl },
      ltb-true s.first s.interfaces room.0,
      omega (arith, ltb-true s.first 4294967296 room.1),
      leb-true 44 size (and_parts (nat_le 44 size) (size % 4 == 0) e).0,
    ))
    (λ e. tt)
live_size s OtherKind field h four =
    let size : ℕ = number s.order field in
    cond_both (is_size size 12) (Ok (unread_or_end s size (size - 12), None)) (Err WrongSize) LiveStep
    (λ e. live_rest s size (size - 12) (record { field = field; long = four; is = refl })) (λ e. tt)

-- If a packet goes on, some of it is left.
abbrev MoreIn : Option Body → Type 0
MoreIn (Some body) = has_more body ≡ true
MoreIn None = Unit {0}

live_body : (s : Section) (size left : ℕ) (o : Option Body) → HasField s.order size
    → MoreIn o → Live (body_or (b.Packet s size left) (unread_or_end s size left) o)
live_body s size left (Some body) f h = (f, h)
live_body s size left None f h = live_rest s size left f

data_more : (start left : ℕ) (way : Option Way) (first : Bool) → MoreIn (data_of start left way first)
data_more start left way first =
    cond_both (nat_lt 0 left) (Some (Data start left way first)) None MoreIn (λ e. e) (λ e. tt)

field_more : (body : Body) (field : List ℕ) → takes_data body ≡ false
    → MoreIn (body_field_at body field).0
unfolding body_field_at
field_more (Event start left) field h = data_more start left _ true
field_more (Data start left way first) field h = cc
field_more body field h = refl

byte_more : (body : Body) (byte : ℕ) → takes_data body ≡ true → MoreIn (body_byte_at body byte).0
byte_more (Data start left way first) byte h = data_more start (left - 1) way false
byte_more body byte h = cc

pub live_field : (block : Block) (field : List ℕ) → Live block → takes_bytes block ≡ false
    → length field ≡ 4 → LiveStep (block_field_at block field)
unfolding block_field_at
live_field b.SectionSize field l h four =
    cond_both (is_size (number Big field) 28 || is_size (number Little field) 28)
    (Ok (b.SectionOrder (number Big field) (number Little field), None)) (Err WrongSize) LiveStep
    (λ e. (record { field = field; long = four; is_big = refl; is_little = refl }, e)) (λ e. tt)
live_field (b.SectionOrder big little) field l h four = live_order big little field l.0
live_field (b.Kind s) field l h four = live_kind s field
live_field (b.Size s kind) field l h four = live_size s kind field l four
live_field (b.Link s size) field l h four =
    cond_both (short_number s.order field == 250) (Ok (b.Snap s size, None)) (Err NoLink) LiveStep
    (λ e. l) (λ e. tt)
live_field (b.Snap s size) field l h four = live_next s size ((size - 20) / 4) 1000 l
live_field (b.Option s size left counts) field l h four = live_option s size (left - 1) counts field l.0
live_field (b.Value s size left counts fields) field l h four =
    live_value s size left counts fields l.0
live_field (b.Resolution s size left) field l h four =
    live_resolution s size left (counts_at (slice_index field 0)) l.0
live_field (b.Interface s size) field l h four =
    cond_both (nat_le s.first (number s.order field) && nat_lt (number s.order field) s.interfaces)
    (Ok (b.High s size, None)) (Err NoInterface) LiveStep (λ e. (l.0, l.3)) (λ e. tt)
live_field (b.High s size) field l h four =
    let high : ℕ = number s.order field in
    cond_both (nat_lt (high * 4294967296 * s.counts) (2 ^ 64)) (Ok (b.Low s size high, None)) (Err Late)
    LiveStep (λ e. (l.0, l.1, ltb-true (high * 4294967296 * s.counts) (2 ^ 64) e)) (λ e. tt)
live_field (b.Low s size high) field l h four =
    let start : ℕ = (high * 4294967296 + number s.order field) * s.counts in
    cond_both (nat_lt start (2 ^ 64)) (Ok (b.Captured s size start, None)) (Err Late) LiveStep
    (λ e. (l.0, l.1)) (λ e. tt)
live_field (b.Captured s size start) field l h four =
    let captured : ℕ = number s.order field in
    cond_both (nat_lt captured 12) (Err Short) _ LiveStep (λ e. tt)
    (λ e. cond_both (nat_lt size (padded captured + 32)) (Err WrongSize)
    (Ok (b.Original s size start captured, None)) LiveStep (λ f. tt)
    (λ f. (l.0, record { field = field; long = four; is = refl })))
live_field (b.Original s size start captured) field l h four =
    cond_both (number s.order field == captured) (Ok (
      b.Packet s size (size - 32 - captured)
          (RtacSeconds start (captured - 12)),
      None,
    )) (Err Cut) LiveStep
    (λ e. (l.0, refl)) (λ e. tt)
live_field (b.Packet s size left body) field l h four =
    live_body s size left (body_field_at body field).0 l.0 (field_more body field h)
live_field (b.Unread s size left) field l h four = tt
live_field (b.End s size) field l h four =
    cond_both (number s.order field == size) (Ok (b.Kind s, None)) (Err WrongSize) LiveStep
    (λ e. tt) (λ e. tt)

pub live_byte : (block : Block) (byte : ℕ) → Live block → takes_bytes block ≡ true
    → LiveStep (block_byte_at block byte)
live_byte (b.Packet s size left body) byte l h =
    live_body s size left (body_byte_at body byte).0 l.0 (byte_more body byte h)
live_byte (b.Unread s size left) byte l h = live_rest s size (left - 1) l.0
live_byte block byte l h = tt
