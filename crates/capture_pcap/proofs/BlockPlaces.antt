-- What a pcapng file so far is after one more field or byte, at each place of its reader.
use Rattle.capture_pcap.specs.BlockStep.{SteppedBlock, takes_bytes, unread_or_end, is_size, in_section}
use Rattle.capture_pcap.specs.BlockStep.{after_order, of_kind, after_kind, after_size, after_link}
use Rattle.capture_pcap.specs.BlockStep.{after_options, next_option_at, over_fields, after_option}
use Rattle.capture_pcap.specs.BlockStep.{after_value, at_resolution, after_resolution, after_low}
use Rattle.capture_pcap.specs.BlockStep.{after_captured, after_original, after_body}
use Rattle.capture_pcap.specs.BlockStep.{after_interface, after_end, block_field_at, block_byte_at}
use Rattle.capture_pcap.specs.BlockStep.{after_high, after_section_size, has_room}
use Rattle.capture_pcap.specs.Blocks.{padded, counts_at, section_kind, is_plain, section_with}
use Rattle.capture_pcap.specs.Blocks.{is_other, fresh, AreBlocks, AreOptions.none as no_option}
use Rattle.capture_pcap.specs.Blocks.AreOptions.{ended as ended_option, plain as plain_option}
use Rattle.capture_pcap.specs.Blocks.AreOptions.{resolution as resolution_option}
use Rattle.capture_pcap.specs.Blocks.IsOrderMark.{big, little}
use Rattle.capture_pcap.specs.BodyStep.{takes_data, body_field_at, body_byte_at, body_or}
use Rattle.capture_pcap.specs.Words.{number, short_number, is_field}
use Rattle.capture_pcap.specs.declared.block.Block.{Block}
use Rattle.capture_pcap.specs.declared.block.Kind.{Kind, TheVariants.Interface as InterfaceKind}
use Rattle.capture_pcap.specs.declared.block.Kind.TheVariants.{Packet as PacketKind}
use Rattle.capture_pcap.specs.declared.block.{Kind.TheVariants.Other as OtherKind, Section.Section}
use Rattle.capture_pcap.specs.declared.body.Body.{Body, TheVariants.Seconds as RtacSeconds}
use Rattle.capture_pcap.specs.declared.fault.PcapFault.TheVariants.{Link as NoLink, Short, Cut}
use Rattle.capture_pcap.specs.declared.fault.PcapFault.TheVariants.{Order as NoOrder}
use Rattle.capture_pcap.specs.declared.fault.PcapFault.TheVariants.{Size as WrongSize, Timeless}
use Rattle.capture_pcap.specs.declared.fault.PcapFault.TheVariants.{Resolution as OtherResolution}
use Rattle.capture_pcap.specs.declared.fault.PcapFault.TheVariants.{Option as WrongOption}
use Rattle.capture_pcap.specs.declared.fault.PcapFault.TheVariants.{Interface as NoInterface, Late}
use Rattle.capture_pcap.specs.declared.words.Order.{Order, TheVariants.Big, TheVariants.Little}
use Rattle.line_stamps.specs.declared.seen.Seen.{Seen}
use Rattle.std.proofs.Common.{◌≡◌, ◌∙◌, ℕ, ◌+◌, ◌*◌, ◌-◌, ◌/◌, ◌<◌, ◌≤◌, ◌^◌, ◌==◌, ◌&&◌, ◌||◌, not}
use Rattle.std.proofs.Common.{nat_lt, nat_le, Bool, true, false, List, [], ◌∷◌, ◌++◌, length, drop}
use Rattle.std.proofs.Common.{Option, Some, None, Ok, Err, refl, ap, sym, subst, arith}
use Rattle.std.proofs.Common.{append_assoc, append-nil, cond, slice_index}
use Rattle.std.proofs.lemmas.Bool.{ltb-true, ltb-false, cond_both, and_parts, eqb-true, leb-true}
use Rattle.std.{proofs.lemmas.List.length-append, specs.Option.option_to_list}
use Rattle.capture_pcap.specs.declared.block.Block.TheVariants as b
use Rattle.capture_pcap.proofs.BlockStands.{SectionAs, BlockGoes, RestsAs, LinkAs, InterfaceAs}
use Rattle.capture_pcap.proofs.BlockStands.{EndsAs, SizeAs, same, OrderAs, AtBlock, HighAs}
use Rattle.capture_pcap.proofs.BlockStands.{OriginalAs, CapturedAs, BodyAs, AtPacket, OptionsAs}
use Rattle.capture_pcap.proofs.BlockStands.{LowAs}
use Rattle.capture_pcap.proofs.BlockWholes.{interface_as, section_as, other_as, packet_as}
use Rattle.capture_pcap.proofs.Bodies.{BodyGoes, body_field_goes, body_byte_goes}
use Rattle.capture_pcap.proofs.{Bodies.AtBody.seconds as rtac_seconds, FieldFacts.field_is}

-- ---- the rest of a block

rest_goes : (s : Section) (size left : ℕ) (text : List ℕ) (items : List Seen)
    → RestsAs s size left text items → AtBlock (unread_or_end s size left) text items
rest_goes s size left text items whole =
    cond_both (nat_lt 0 left) (b.Unread s size left) (b.End s size) (λ x. AtBlock x text items)
    (λ e. (ltb-true 0 left e, whole))
    (λ e. λ again long is.
    let none : left ≡ 0 = omega (arith, ltb-false 0 left e) in
    let Q : List ℕ → Type 0 = λ x. AreBlocks (Some s) (x ++ again) items in
    subst Q (append-nil text) (whole [] (sym none) again long is))

-- ---- options

options_done : (s : Section) (size left counts : ℕ) (text : List ℕ) (items : List Seen)
    → RestsAs (section_with s counts) size (4 * left) text items
    → BlockGoes text items (after_options s size left counts)
options_done s size left counts text items whole =
    same (unread_or_end (section_with s counts) size (4 * left)) text items
    (rest_goes (section_with s counts) size (4 * left) text items whole)

next_goes : (s : Section) (size left counts : ℕ) (text : List ℕ) (items : List Seen)
    → OptionsAs s size left counts text items
    → BlockGoes text items (next_option_at s size left counts)
next_goes s size left counts text items whole =
    cond_both (left == 0) (after_options s size left counts) (Ok (b.Option s size left counts, None))
    (BlockGoes text items)
    (λ e. options_done s size left counts text items (λ rest long again four is.
    let none : left ≡ 0 = eqb-true left 0 e in
    let empty : rest ≡ [] = nothing_of rest (omega (arith, long, none)) in
    let Q : List ℕ → Type 0 = λ x. AreBlocks (Some (section_with s counts))
    ((text ++ x) ++ again) items in
    subst Q (sym empty) (whole [] counts (no_option counts) (omega (arith, none)) again four is)))
    (λ e. same (b.Option s size left counts) text items (some_of left e, whole))
  where
    nothing_of : (x : List ℕ) → length x ≡ 0 → x ≡ []
    nothing_of [] h = refl
    nothing_of (c ∷ x) h = absurd (omega arith)

    some_of : (n : ℕ) → (n == 0) ≡ false → 0 < n
    some_of n e = grind arith

assoc_again : (s : Section) (text first rest again : List ℕ) (items : List Seen)
    → AreBlocks (Some s) ((text ++ (first ++ rest)) ++ again) items
    → AreBlocks (Some s) (((text ++ first) ++ rest) ++ again) items
assoc_again s text first rest again items at =
    let Q : List ℕ → Type 0 = λ x. AreBlocks (Some s) (x ++ again) items in
    subst Q (sym (append_assoc text first rest)) at

ended_goes : (s : Section) (size left counts : ℕ) (text field : List ℕ) (items : List Seen)
    → OptionsAs s size left counts text items → 0 < left → length field ≡ 4
    → short_number s.order field ≡ 0
    → BlockGoes (text ++ field) items (after_options s size (left - 1) counts)
ended_goes s size left counts text field items whole some four code =
    options_done s size (left - 1) counts (text ++ field) items (λ rest long again g is.
    assoc_again (section_with s counts) text field rest again items
    (whole (field ++ rest) counts (ended_option counts field rest four code)
    (omega (arith, length-append field rest, long, four, some)) again g is))

resolution_place : (s : Section) (size left counts : ℕ) (text field : List ℕ) (items : List Seen)
    → OptionsAs s size left counts text items → 0 < left → length field ≡ 4
    → short_number s.order field ≡ 9 → short_number s.order (drop 2 field) ≡ 1 → 0 < left - 1
    → AtBlock (b.Resolution s size (left - 1)) (text ++ field) items
resolution_place s size left counts text field items whole some four code one more = (
  more,
  λ value new long is. λ options to are_options long_options again g again_is.
      let all : List ℕ = field ++ (value ++ options) in
      let spelled : (text ++ all) ++ again ≡ (((text ++ field) ++ value) ++ options) ++ again =
      ap (λ x. x ++ again) (sym (append_assoc (text ++ field) value options
      ∙ append_assoc text field (value ++ options))) in
      let Q : List ℕ → Type 0 = λ x. AreBlocks (Some (section_with s to)) x items in
      subst Q spelled
      (whole all to (resolution_option counts new to field value options four code one long is
      are_options)
      (omega (
        arith,
        length-append field (value ++ options),
        length-append value options,
        long,
        four,
        long_options,
        more,
      )) again g again_is),
)

plain_place : (s : Section) (size left counts fields : ℕ) (text field value : List ℕ)
    (items : List Seen) → OptionsAs s size left counts text items → 0 < left → length field ≡ 4
    → is_plain (short_number s.order field) ≡ true
    → fields ≡ (short_number s.order (drop 2 field) + 3) / 4 → fields ≤ left - 1
    → length value ≡ 4 * fields
    → OptionsAs s size (left - 1 - fields) counts ((text ++ field) ++ value) items
plain_place s size left counts fields text field value items whole some four code fields_are few
    long = λ options to are_options long_options again g again_is.
    let all : List ℕ = field ++ (value ++ options) in
    let spelled : (text ++ all) ++ again ≡ (((text ++ field) ++ value) ++ options) ++ again =
    ap (λ x. x ++ again) (sym (append_assoc (text ++ field) value options
    ∙ append_assoc text field (value ++ options))) in
    let Q : List ℕ → Type 0 = λ x. AreBlocks (Some (section_with s to)) x items in
    subst Q spelled
    (whole all to (plain_option counts to field value options four code
    (omega (arith, long, fields_are)) are_options)
    (omega (
      arith,
      length-append field (value ++ options),
      length-append value options,
      long,
      four,
      long_options,
      few,
      some,
    )) again g again_is)

over_goes : (s : Section) (size left counts fields : ℕ) (text field : List ℕ)
    (items : List Seen) → OptionsAs s size left counts text items → 0 < left → length field ≡ 4
    → is_plain (short_number s.order field) ≡ true
    → fields ≡ (short_number s.order (drop 2 field) + 3) / 4 → fields ≤ left - 1
    → BlockGoes (text ++ field) items (over_fields s size (left - 1) counts fields)
over_goes s size left counts fields text field items whole some four code fields_are few =
    cond_both (fields == 0) (next_option_at s size (left - 1) counts)
    (Ok (b.Value s size (left - 1 - fields) counts fields, None)) (BlockGoes (text ++ field) items)
    (λ e. let none : fields ≡ 0 = eqb-true fields 0 e in
    let placed = plain_place s size left counts fields text field [] items whole some four code
    fields_are few (omega (arith, none)) in
    let Q : ℕ → List ℕ → Type 0 = λ n x. OptionsAs s size n counts x items in
    let R : ℕ → Type 0 = λ n. OptionsAs s size n counts (text ++ field) items in
    let S : List ℕ → Type 0 = λ x. OptionsAs s size (left - 1 - fields) counts x items in
    let left_is : left - 1 - fields ≡ left - 1 = omega (arith, none) in
    next_goes s size (left - 1) counts (text ++ field) items
    (subst R left_is (subst S (append-nil (text ++ field)) placed)))
    (λ e. same (b.Value s size (left - 1 - fields) counts fields) (text ++ field) items (
      some_of fields e,
      λ value long. plain_place s size left counts fields text field value items
          whole some four code fields_are few long,
    ))
  where
    some_of : (n : ℕ) → (n == 0) ≡ false → 0 < n
    some_of n e = grind arith

plain_of : (code : ℕ) → (code == 0) ≡ false → (code == 9) ≡ false → (code == 14) ≡ false
    → is_plain code ≡ true
plain_of code e f g = rw (e, f, g) refl

option_goes : (s : Section) (size left counts : ℕ) (text field : List ℕ) (items : List Seen)
    → OptionsAs s size left counts text items → 0 < left → length field ≡ 4
    → BlockGoes (text ++ field) items (after_option s size (left - 1) counts field)
option_goes s size left counts text field items whole some four =
    let code : ℕ = short_number s.order field in
    let long : ℕ = short_number s.order (drop 2 field) in
    let fields : ℕ = (long + 3) / 4 in
    let P : SteppedBlock → Type 0 = BlockGoes (text ++ field) items in
    cond_both (code == 0) (after_options s size (left - 1) counts) _ P
    (λ e. ended_goes s size left counts text field items whole some four (eqb-true code 0 e))
    (λ e. cond_both (code == 9) _ _ P
    (λ f. cond_both ((long == 1) && nat_lt 0 (left - 1))
    (Ok (b.Resolution s size (left - 1), None)) (Err OtherResolution) P
    (λ g. let parts = and_parts (long == 1) (nat_lt 0 (left - 1)) g in
    same (b.Resolution s size (left - 1)) (text ++ field) items
    (resolution_place s size left counts text field items whole some four
    (eqb-true code 9 f) (eqb-true long 1 parts.0) (ltb-true 0 (left - 1) parts.1)))
    (λ g. tt))
    (λ f. by_last (code == 14) (nat_lt (left - 1) fields) refl
    (λ g h. over_goes s size left counts fields text field items whole some four
    (plain_of code e f g) refl (ltb-false (left - 1) fields h))))
  where
    by_last : (t u : Bool) → t ≡ t
        → (t ≡ false → u ≡ false → BlockGoes (text ++ field) items (over_fields s size (left - 1)
        counts ((short_number s.order (drop 2 field) + 3) / 4)))
        → BlockGoes (text ++ field) items (cond (t || u) (Err WrongOption) (over_fields s size
        (left - 1) counts ((short_number s.order (drop 2 field) + 3) / 4)))
    by_last true u r h = tt
    by_last false true r h = tt
    by_last false false r h = h refl refl

value_goes : (s : Section) (size left counts fields : ℕ) (text field : List ℕ) (items : List Seen)
    → 0 < fields → ((value : List ℕ) → length value ≡ 4 * fields
    → OptionsAs s size left counts (text ++ value) items) → length field ≡ 4
    → BlockGoes (text ++ field) items (after_value s size left counts fields)
value_goes s size left counts fields text field items some whole four =
    cond_both (nat_lt 1 fields) (Ok (b.Value s size left counts (fields - 1), None))
    (next_option_at s size left counts) (BlockGoes (text ++ field) items)
    (λ e. same (b.Value s size left counts (fields - 1)) (text ++ field) items (
      omega (arith, ltb-true 1 fields e),
      λ value long.
          let Q : List ℕ → Type 0 = λ x. OptionsAs s size left counts x items in
          subst Q (sym (append_assoc text field value))
          (whole (field ++ value)
          (omega (arith, length-append field value, four, long, ltb-true 1 fields e))),
    ))
    (λ e. next_goes s size left counts (text ++ field) items
    (whole field (omega (arith, four, some, ltb-false 1 fields e))))

resolution_goes : (s : Section) (size left : ℕ) (text field : List ℕ) (items : List Seen)
    → ((value : List ℕ) (counts : ℕ) → length value ≡ 4
    → counts_at (slice_index value 0) ≡ Some counts
    → OptionsAs s size (left - 1) counts (text ++ value) items) → length field ≡ 4
    → BlockGoes (text ++ field) items (after_resolution s size left (slice_index field 0))
resolution_goes s size left text field items whole four =
    by_counts (counts_at (slice_index field 0)) (λ counts e. whole field counts four e)
  where
    by_counts : (o : Option ℕ)
        → ((counts : ℕ) → o ≡ Some counts
        → OptionsAs s size (left - 1) counts (text ++ field) items)
        → BlockGoes (text ++ field) items (at_resolution s size left o)
    by_counts (Some counts) h = next_goes s size (left - 1) counts (text ++ field) items (h counts refl)
    by_counts None h = tt

-- ---- a packet

low_goes : (s : Section) (size high : ℕ) (text field : List ℕ) (items : List Seen)
    → LowAs s size high text items → length field ≡ 4
    → BlockGoes (text ++ field) items (after_low s size high (number s.order field))
low_goes s size high text field items whole four =
    let start : ℕ = (high * 4294967296 + number s.order field) * s.counts in
    cond_both (nat_lt start (2 ^ 64)) (Ok (b.Captured s size start, None)) (Err Late)
    (BlockGoes (text ++ field) items)
    (λ e. same (b.Captured s size start) (text ++ field) items
    (whole field four (ltb-true start (2 ^ 64) e)))
    (λ e. tt)

captured_goes : (s : Section) (size start : ℕ) (text field : List ℕ) (items : List Seen)
    → CapturedAs s size start text items → length field ≡ 4
    → BlockGoes (text ++ field) items (after_captured s size start (number s.order field))
captured_goes s size start text field items whole four =
    let captured : ℕ = number s.order field in
    cond_both (nat_lt captured 12) (Err Short) _ (BlockGoes (text ++ field) items)
    (λ e. tt)
    (λ e. cond_both (nat_lt size (padded captured + 32)) (Err WrongSize)
    (Ok (b.Original s size start captured, None)) (BlockGoes (text ++ field) items)
    (λ f. tt)
    (λ f. same (b.Original s size start captured) (text ++ field) items
    (whole field four (ltb-false captured 12 e) (ltb-false size (padded captured + 32) f))))

original_goes : (s : Section) (size start captured : ℕ) (text field : List ℕ) (items : List Seen)
    → OriginalAs s size start captured text items → length field ≡ 4
    → BlockGoes (text ++ field) items (after_original s size start captured (number s.order field))
original_goes s size start captured text field items whole four =
    let next : Block = b.Packet s size (size - 32 - captured) (RtacSeconds start (captured - 12)) in
    cond_both (number s.order field == captured) (Ok (next, None)) (Err Cut)
    (BlockGoes (text ++ field) items)
    (λ e. same next (text ++ field) items (record {
      start = start;
      count = captured - 12;
      front = text ++ field;
      bytes = [];
      before = items;
      these = [];
      text_is = sym (append-nil (text ++ field));
      items_are = sym (append-nil items);
      at = rtac_seconds;
      whole = whole field four (eqb-true (number s.order field) captured e);
    }))
    (λ e. tt)

packet_goes : (s : Section) (size left start count : ℕ) (front bytes : List ℕ)
    (before these : List Seen) (next : Option Body)
    → BodyAs s size left start count front before → BodyGoes start count bytes these next
    → AtBlock (body_or (b.Packet s size left) (unread_or_end s size left) next) (front ++ bytes)
    (before ++ these)
packet_goes s size left start count front bytes before these (Some body) whole goes = record {
  start = start;
  count = count;
  front = front;
  bytes = bytes;
  before = before;
  these = these;
  text_is = refl;
  items_are = refl;
  at = goes;
  whole = whole;
}
packet_goes s size left start count front bytes before these None whole goes =
    rest_goes s size left (front ++ bytes) (before ++ these) (whole bytes these goes)

moved : (block : Block) (text front bytes last : List ℕ) (items before these others : List Seen)
    → text ≡ front ++ bytes → items ≡ before ++ these
    → AtBlock block (front ++ (bytes ++ last)) (before ++ (these ++ others))
    → AtBlock block (text ++ last) (items ++ others)
moved block text front bytes last items before these others e f at =
    let Q : List ℕ → Type 0 = λ x. AtBlock block x (before ++ (these ++ others)) in
    let R : List Seen → Type 0 = λ x. AtBlock block (text ++ last) x in
    subst R (sym (ap (λ x. x ++ others) f ∙ append_assoc before these others))
    (subst Q (sym (ap (λ x. x ++ last) e ∙ append_assoc front bytes last)) at)

packet_field_goes : (s : Section) (size left : ℕ) (body : Body) (text field : List ℕ)
    (items : List Seen) → AtPacket s size left body text items → takes_data body ≡ false
    → length field ≡ 4
    → BlockGoes (text ++ field) items (after_body s size left (body_field_at body field))
packet_field_goes s size left body text field items p h four =
    moved (body_or (b.Packet s size left) (unread_or_end s size left) (body_field_at body field).0) text
    p.front p.bytes field items p.before p.these (option_to_list (body_field_at body field).1)
    p.text_is p.items_are
    (packet_goes s size left p.start p.count p.front (p.bytes ++ field) p.before
    (p.these ++ option_to_list (body_field_at body field).1) (body_field_at body field).0 p.whole
    (body_field_goes p.start p.count body p.bytes field p.these p.at h four))

packet_byte_goes : (s : Section) (size left : ℕ) (body : Body) (text : List ℕ) (items : List Seen)
    (byte : ℕ) → AtPacket s size left body text items → takes_data body ≡ true
    → BlockGoes (text ++ byte ∷ []) items (after_body s size left (body_byte_at body byte))
packet_byte_goes s size left body text items byte p h =
    moved (body_or (b.Packet s size left) (unread_or_end s size left) (body_byte_at body byte).0) text
    p.front p.bytes (byte ∷ []) items p.before p.these (option_to_list (body_byte_at body byte).1)
    p.text_is p.items_are
    (packet_goes s size left p.start p.count p.front (p.bytes ++ byte ∷ []) p.before
    (p.these ++ option_to_list (body_byte_at body byte).1) (body_byte_at body byte).0 p.whole
    (body_byte_goes p.start p.count body p.bytes p.these byte p.at h))

rest_byte_goes : (s : Section) (size left : ℕ) (text : List ℕ) (items : List Seen) (byte : ℕ)
    → 0 < left → RestsAs s size left text items
    → BlockGoes (text ++ byte ∷ []) items (Ok (unread_or_end s size (left - 1), None))
rest_byte_goes s size left text items byte some whole =
    same (unread_or_end s size (left - 1)) (text ++ byte ∷ []) items
    (rest_goes s size (left - 1) (text ++ byte ∷ []) items (λ rest long again four is.
    assoc_again s text (byte ∷ []) rest again items
    (whole (byte ∷ rest) (omega (arith, long, some)) again four is)))

-- ---- the kind of a block

kind_field : (field : List ℕ) → length field ≡ 4 → is_field 0x0A 0x0D 0x0D 0x0A field ≡ true
    → field ≡ section_kind
kind_field field four h = field_is 0x0A 0x0D 0x0D 0x0A field four h

other_kind : (kind : ℕ) → (kind == 1 || kind == 6) ≡ false
    → (kind == 2 || kind == 3) ≡ false → is_other kind ≡ true
other_kind kind e f = by_tests (kind == 1) (kind == 6) (kind == 2 || kind == 3) e f
  where
    by_tests : (t u v : Bool) → (t || u) ≡ false → v ≡ false → (not t && not u && not v) ≡ true
    by_tests true u v e f = cc
    by_tests false true v e f = cc
    by_tests false false true e f = cc
    by_tests false false false e f = refl

kind_goes : (s : Section) (text field : List ℕ) (items : List Seen)
    → AreBlocks (Some s) text items → length field ≡ 4
    → BlockGoes (text ++ field) items (after_kind s field)
kind_goes s text field items blocks four =
    let P : SteppedBlock → Type 0 = BlockGoes (text ++ field) items in
    let kind : ℕ = number s.order field in
    cond_both (is_field 0x0A 0x0D 0x0D 0x0A field) (Ok (b.SectionSize, None)) (of_kind s kind) P
    (λ e. same b.SectionSize (text ++ field) items
    (let Q : List ℕ → Type 0 = λ x. SectionAs (text ++ x) items in
    subst Q (sym (kind_field field four e)) (section_as (Some s) text items blocks)))
    (λ apart. cond_both ((kind == 1) && has_room s InterfaceKind)
    (Ok (b.Size s InterfaceKind, None)) _ P
    (λ e. let parts = and_parts (kind == 1) (nat_lt s.interfaces 4294967295) e in
    same (b.Size s InterfaceKind) (text ++ field) items
    (interface_as s text field items blocks (ltb-true s.interfaces 4294967295 parts.1) four
    (eqb-true kind 1 parts.0)))
    (λ e. cond_both ((kind == 6) && has_room s PacketKind)
    (Ok (b.Size s PacketKind, None)) _ P
    (λ f. let parts = and_parts (kind == 6) (has_room s PacketKind) f in
    let room = and_parts (nat_lt s.first s.interfaces) (nat_lt s.first 4294967296) parts.1
    in
    same (b.Size s PacketKind) (text ++ field) items
    (packet_as s text field items blocks (ltb-true s.first 4294967296 room.1) four
    (eqb-true kind 6 parts.0)))
    (λ f. cond_both (kind == 1 || kind == 6) (Err NoInterface) _ P
    (λ g. tt)
    (λ g. cond_both (kind == 2 || kind == 3) (Err Timeless)
    (Ok (b.Size s OtherKind, None)) P
    (λ h. tt)
    (λ h. same (b.Size s OtherKind) (text ++ field) items
    (other_as s text field items blocks four (other_kind kind g h) apart))))))

size_goes : (s : Section) (kind : Kind) (text field : List ℕ) (items : List Seen)
    → SizeAs s kind text items → length field ≡ 4
    → BlockGoes (text ++ field) items (after_size s kind (number s.order field))
size_goes s InterfaceKind text field items whole four =
    let size : ℕ = number s.order field in
    cond_both (is_size size 20) (Ok (b.Link s size, None)) (Err WrongSize)
    (BlockGoes (text ++ field) items)
    (λ e. same (b.Link s size) (text ++ field) items (whole field four e)) (λ e. tt)
size_goes s PacketKind text field items whole four =
    let size : ℕ = number s.order field in
    cond_both (is_size size 44) (Ok (b.Interface s size, None)) (Err WrongSize)
    (BlockGoes (text ++ field) items)
    (λ e. same (b.Interface s size) (text ++ field) items (whole field four e)) (λ e. tt)
size_goes s OtherKind text field items whole four =
    let size : ℕ = number s.order field in
    cond_both (is_size size 12) (Ok (unread_or_end s size (size - 12), None)) (Err WrongSize)
    (BlockGoes (text ++ field) items)
    (λ e. same (unread_or_end s size (size - 12)) (text ++ field) items
    (rest_goes s size (size - 12) (text ++ field) items (whole field four e)))
    (λ e. tt)

order_goes : (big_size little_size : ℕ) (text field : List ℕ) (items : List Seen)
    → OrderAs big_size little_size text items → length field ≡ 4
    → BlockGoes (text ++ field) items (after_order field big_size little_size)
order_goes big_size little_size text field items whole four =
    cond_both (is_field 0x1A 0x2B 0x3C 0x4D field) (in_section Big big_size) _
    (BlockGoes (text ++ field) items)
    (λ e. in_goes Big big_size (λ ok. let Q : List ℕ → Type 0 = λ x. RestsAs (fresh Big) big_size
    (big_size - 16) (text ++ x) items in
    subst Q (sym (field_is 0x1A 0x2B 0x3C 0x4D field four e)) (whole Big _ big ok)))
    (λ e. cond_both (is_field 0x4D 0x3C 0x2B 0x1A field) (in_section Little little_size)
    (Err NoOrder) (BlockGoes (text ++ field) items)
    (λ f. in_goes Little little_size (λ ok. let Q : List ℕ → Type 0 = λ x. RestsAs (fresh Little)
    little_size (little_size - 16) (text ++ x) items in
    subst Q (sym (field_is 0x4D 0x3C 0x2B 0x1A field four f)) (whole Little _ little ok)))
    (λ f. tt))
  where
    in_goes : (order : Order) (size : ℕ)
        → (is_size size 28 ≡ true → RestsAs (fresh order) size (size - 16) (text ++ field) items)
        → BlockGoes (text ++ field) items (in_section order size)
    in_goes order size h =
        cond_both (is_size size 28) (Ok (unread_or_end (fresh order) size (size - 16), None))
        (Err WrongSize) (BlockGoes (text ++ field) items)
        (λ ok. same (unread_or_end (fresh order) size (size - 16)) (text ++ field) items
        (rest_goes (fresh order) size (size - 16) (text ++ field) items (h ok)))
        (λ ok. tt)

link_goes : (s : Section) (size : ℕ) (text field : List ℕ) (items : List Seen)
    → LinkAs s size text items → length field ≡ 4
    → BlockGoes (text ++ field) items (after_link s size (short_number s.order field))
link_goes s size text field items whole four =
    let link : ℕ = short_number s.order field in
    cond_both (link == 250) (Ok (b.Snap s size, None)) (Err NoLink) (BlockGoes (text ++ field) items)
    (λ e. same (b.Snap s size) (text ++ field) items (whole field four (eqb-true link 250 e)))
    (λ e. tt)

interface_goes : (s : Section) (size : ℕ) (text field : List ℕ) (items : List Seen)
    → InterfaceAs s size text items → length field ≡ 4
    → BlockGoes (text ++ field) items (after_interface s size (number s.order field))
interface_goes s size text field items whole four =
    let interface : ℕ = number s.order field in
    cond_both (nat_le s.first interface && nat_lt interface s.interfaces)
    (Ok (b.High s size, None)) (Err NoInterface) (BlockGoes (text ++ field) items)
    (λ e. let parts = and_parts (nat_le s.first interface) (nat_lt interface s.interfaces) e in
    same (b.High s size) (text ++ field) items (whole field four
    (leb-true s.first interface parts.0) (ltb-true interface s.interfaces parts.1)))
    (λ e. tt)

high_goes : (s : Section) (size : ℕ) (text field : List ℕ) (items : List Seen)
    → HighAs s size text items → length field ≡ 4
    → BlockGoes (text ++ field) items (after_high s size (number s.order field))
high_goes s size text field items whole four =
    let high : ℕ = number s.order field in
    cond_both (nat_lt (high * 4294967296 * s.counts) (2 ^ 64)) (Ok (b.Low s size high, None))
    (Err Late) (BlockGoes (text ++ field) items)
    (λ e. same (b.Low s size high) (text ++ field) items (whole field four))
    (λ e. tt)

section_size_goes : (big_size little_size : ℕ) (text : List ℕ) (items : List Seen)
    → OrderAs big_size little_size text items
    → BlockGoes text items (after_section_size big_size little_size)
section_size_goes big_size little_size text items whole =
    cond_both (is_size big_size 28 || is_size little_size 28)
    (Ok (b.SectionOrder big_size little_size, None)) (Err WrongSize) (BlockGoes text items)
    (λ e. same (b.SectionOrder big_size little_size) text items whole)
    (λ e. tt)

end_goes : (s : Section) (size : ℕ) (text field : List ℕ) (items : List Seen)
    → EndsAs s size text items → length field ≡ 4
    → BlockGoes (text ++ field) items (after_end s size (number s.order field))
end_goes s size text field items whole four =
    let again : ℕ = number s.order field in
    cond_both (again == size) (Ok (b.Kind s, None)) (Err WrongSize) (BlockGoes (text ++ field) items)
    (λ e. same (b.Kind s) (text ++ field) items (whole field four (eqb-true again size e)))
    (λ e. tt)

pub block_field_goes : (block : Block) (text field : List ℕ) (items : List Seen)
    → AtBlock block text items → takes_bytes block ≡ false → length field ≡ 4
    → BlockGoes (text ++ field) items (block_field_at block field)
unfolding block_field_at
block_field_goes b.SectionSize text field items at h four =
    section_size_goes (number Big field) (number Little field) (text ++ field) items (at field four)
block_field_goes (b.SectionOrder big_size little_size) text field items at h four =
    order_goes big_size little_size text field items at four
block_field_goes (b.Kind s) text field items at h four = kind_goes s text field items at four
block_field_goes (b.Size s kind) text field items at h four =
    size_goes s kind text field items at four
block_field_goes (b.Link s size) text field items at h four =
    link_goes s size text field items at four
block_field_goes (b.Snap s size) text field items at h four =
    next_goes s size ((size - 20) / 4) 1000 (text ++ field) items (at field four)
block_field_goes (b.Option s size left counts) text field items at h four =
    option_goes s size left counts text field items at.1 at.0 four
block_field_goes (b.Value s size left counts fields) text field items at h four =
    value_goes s size left counts fields text field items at.0 at.1 four
block_field_goes (b.Resolution s size left) text field items at h four =
    resolution_goes s size left text field items at.1 four
block_field_goes (b.Interface s size) text field items at h four =
    interface_goes s size text field items at four
block_field_goes (b.High s size) text field items at h four =
    high_goes s size text field items at four
block_field_goes (b.Low s size high) text field items at h four =
    low_goes s size high text field items at four
block_field_goes (b.Captured s size start) text field items at h four =
    captured_goes s size start text field items at four
block_field_goes (b.Original s size start captured) text field items at h four =
    original_goes s size start captured text field items at four
block_field_goes (b.Packet s size left body) text field items at h four =
    packet_field_goes s size left body text field items at h four
block_field_goes (b.Unread s size left) text field items at h four = tt
block_field_goes (b.End s size) text field items at h four =
    end_goes s size text field items at four

pub block_byte_goes : (block : Block) (text : List ℕ) (items : List Seen) (byte : ℕ)
    → AtBlock block text items → takes_bytes block ≡ true
    → BlockGoes (text ++ byte ∷ []) items (block_byte_at block byte)
block_byte_goes (b.Packet s size left body) text items byte at h =
    packet_byte_goes s size left body text items byte at h
block_byte_goes (b.Unread s size left) text items byte at h =
    rest_byte_goes s size left text items byte at.0 at.1
block_byte_goes block text items byte at h = tt
