-- What a file so far is at each stage of its reader, and after one more field or byte.
use Rattle.line_stamps.specs.{Fields.before_field, Walks.walk}
use Rattle.capture_pcap.specs.BlockStep.{block_field_at, block_byte_at}
use Rattle.capture_pcap.specs.BlockStep.{takes_bytes as block_takes_bytes}
use Rattle.capture_pcap.specs.Blocks.{section_kind, AreBlocks.nothing as no_block}
use Rattle.capture_pcap.specs.BodyStep.{body_field_at, body_byte_at, body_or}
use Rattle.capture_pcap.specs.Pcap.{IsMagic, IsTime, AreLengths, ArePackets, IsCause}
use Rattle.capture_pcap.specs.Pcap.{ArePackets.none, ArePackets.more, IsCause.no_magic}
use Rattle.capture_pcap.specs.Pcap.IsCause.{other_link, short_packet, cut_packet, in_block}
use Rattle.capture_pcap.specs.Pcap.IsMagic.{big_micro, little_micro, big_nano, little_nano}
use Rattle.capture_pcap.specs.PcapStep.{SteppedPcap, takes_bytes, field_at, byte_at, free_at}
use Rattle.capture_pcap.specs.PcapStep.{after_magic_at, in_pcap_blocks, pcap_magic_at, step_at}
use Rattle.capture_pcap.specs.Words.{number, nanoseconds, is_field}
use Rattle.capture_pcap.specs.declared.block.Block.{Block, TheVariants.SectionSize}
use Rattle.capture_pcap.specs.declared.body.Body.{Body, TheVariants.Seconds as RtacSeconds}
use Rattle.capture_pcap.specs.declared.fault.PcapFault.{PcapFault, TheVariants.Magic as NoMagic}
use Rattle.capture_pcap.specs.declared.fault.PcapFault.TheVariants.{Link as NoLink, Short, Cut}
use Rattle.capture_pcap.specs.declared.stage.Stage.{Stage, TheVariants.Magic}
use Rattle.capture_pcap.specs.declared.stage.Stage.TheVariants.{Free, Link, Seconds, Fraction}
use Rattle.capture_pcap.specs.declared.stage.Stage.TheVariants.{Captured, Original, Packet}
use Rattle.capture_pcap.specs.declared.words.Clock.{Clock}
use Rattle.capture_pcap.specs.declared.words.Order.TheVariants.{Big, Little}
use Rattle.capture_pcap.specs.declared.words.Resolution.TheVariants.{Microseconds, Nanoseconds}
use Rattle.line_stamps.specs.declared.seen.Seen.{Seen}
use Rattle.std.proofs.Common.{◌≡◌, ◌∙◌, ℕ, ◌+◌, ◌*◌, ◌-◌, ◌<◌, ◌≤◌, ◌==◌, nat_lt, true, false, List}
use Rattle.std.proofs.Common.{[], ◌∷◌, ◌++◌, length, Option, Some, None, Result, Ok, Err, refl, ap}
use Rattle.std.proofs.Common.{sym, subst, arith, append_assoc, append-nil}
use Rattle.std.proofs.lemmas.Bool.{ltb-true, ltb-false, cond_both, eqb-true}
use Rattle.std.{proofs.lemmas.List.length-append, specs.Option.option_to_list}
use Rattle.capture_pcap.specs.declared.block.Block.TheVariants as b
use Rattle.capture_pcap.proofs.BlockLive.{Live, LiveStep, live_field, live_byte}
use Rattle.capture_pcap.proofs.BlockPlaces.{block_field_goes, block_byte_goes}
use Rattle.capture_pcap.proofs.{BlockStands.AtBlock, BlockStands.BlockGoes, BlockWholes.section_as}
use Rattle.capture_pcap.proofs.Bodies.{AtBody, BodyGoes, body_field_goes, body_byte_goes}
use Rattle.capture_pcap.proofs.{Bodies.AtBody.seconds as rtac_seconds, FieldFacts.field_is}
use Rattle.capture_pcap.specs.declared.stage.Stage.TheVariants.{Blocks}

-- what a file so far is if its reader is at this stage, with the items that it has
pub data AtStage : Stage → List ℕ → List Seen → Type 0 where
  magic : AtStage Magic [] []
  free : (clock : Clock) (before : ℕ) (word front : List ℕ) → IsMagic clock word
      → length front ≡ 4 * before → before < 4 → AtStage (Free clock before) (word ++ front) []
  link : (clock : Clock) (word front : List ℕ) → IsMagic clock word → length front ≡ 16
      → AtStage (Link clock) (word ++ front) []
  seconds : (clock : Clock) (front : List ℕ) (items : List Seen) → ArePackets clock front items
      → AtStage (Seconds clock) front items
  fraction : (clock : Clock) (front first : List ℕ) (items : List Seen)
      → ArePackets clock front items → length first ≡ 4
      → AtStage (Fraction clock (number clock.order first)) (front ++ first) items
  captured : (clock : Clock) (front time : List ℕ) (start : ℕ) (items : List Seen)
      → ArePackets clock front items → IsTime clock time start
      → AtStage (Captured clock start) (front ++ time) items
  original : (clock : Clock) (front time size : List ℕ) (start : ℕ) (items : List Seen)
      → ArePackets clock front items → IsTime clock time start → length size ≡ 4
      → 12 ≤ number clock.order size
      → AtStage (Original clock start (number clock.order size)) ((front ++ time) ++ size) items
  packet : (clock : Clock) (front time lengths bytes : List ℕ) (start count : ℕ) (body : Body)
      (items these : List Seen) → ArePackets clock front items → IsTime clock time start
      → AreLengths clock lengths (12 + count) → AtBody start count body bytes these
      → AtStage (Packet clock body) ((front ++ (time ++ lengths)) ++ bytes) (items ++ these)
  blocks : (block : Block) (bytes : List ℕ) (items : List Seen)
      → AtBlock block (section_kind ++ bytes) items → Live block
      → AtStage (Blocks block) (section_kind ++ bytes) items

-- what holds of a file after one more field: the cause is right, if the field is refused
abbrev pub Goes : List ℕ → List ℕ → List Seen → SteppedPcap → Type 0
Goes front field items (Ok next) = AtStage next.0 (front ++ field) (items ++ option_to_list next.1)
Goes front field items (Err why) = IsCause front field why

-- what holds of a file after one more field: nothing, if the field is refused
abbrev pub Moves : List ℕ → List ℕ → List Seen → SteppedPcap → Type 0
Moves front field items (Ok next) = AtStage next.0 (front ++ field) (items ++ option_to_list next.1)
Moves front field items (Err why) = Unit {0}

moves_so : (front field : List ℕ) (items : List Seen) (r : SteppedPcap) → Goes front field items r
    → Moves front field items r
moves_so front field items (Ok next) goes = goes
moves_so front field items (Err why) goes = tt

cause_in : (front field : List ℕ) (items : List Seen) (r : SteppedPcap) (why : PcapFault)
    → Goes front field items r → r ≡ Err why → IsCause front field why
cause_in front field items r why goes e =
    let Q : SteppedPcap → Type 0 = λ s. Goes front field items s in subst Q e goes

same_items : (stage : Stage) (front : List ℕ) (items : List Seen) → AtStage stage front items
    → AtStage stage front (items ++ [])
same_items stage front items at =
    let Q : List Seen → Type 0 = λ x. AtStage stage front x in subst Q (sym (append-nil items)) at

-- ---- the magic number

magic_found : (clock : Clock) (word field : List ℕ) → field ≡ word → IsMagic clock word
    → AtStage (Free clock 0) ([] ++ field) []
magic_found clock word field e m =
    let Q : List ℕ → Type 0 = λ x. AtStage (Free clock 0) x [] in
    subst Q (append-nil word ∙ sym e) (free clock 0 word [] m refl (omega arith))

no_magic_at : (field : List ℕ) → is_field 0xA1 0xB2 0xC3 0xD4 field ≡ false
    → is_field 0xD4 0xC3 0xB2 0xA1 field ≡ false → is_field 0xA1 0xB2 0x3C 0x4D field ≡ false
    → is_field 0x4D 0x3C 0xB2 0xA1 field ≡ false → (clock : Clock) → IsMagic clock field → ⊥
no_magic_at field e f g h clock big_micro = cc
no_magic_at field e f g h clock little_micro = cc
no_magic_at field e f g h clock big_nano = cc
no_magic_at field e f g h clock little_nano = cc

section_found : (field : List ℕ) → field ≡ section_kind
    → AtStage (Blocks SectionSize) ([] ++ field) []
section_found field e =
    let Q : List ℕ → Type 0 = λ x. AtStage (Blocks SectionSize) x [] in
    subst Q (sym e) (blocks SectionSize [] [] (section_as None [] [] no_block) tt)

no_section : (field : List ℕ) → is_field 0x0A 0x0D 0x0D 0x0A field ≡ false → field ≡ section_kind
    → ⊥
no_section field d e =
    let found : true ≡ is_field 0x0A 0x0D 0x0D 0x0A field =
    sym (ap (is_field 0x0A 0x0D 0x0D 0x0A) e) in
    let clash : true ≡ false = found ∙ d in cc

pcap_goes : (field : List ℕ) → length field ≡ 4 → is_field 0x0A 0x0D 0x0D 0x0A field ≡ false
    → Goes [] field [] (pcap_magic_at field)
pcap_goes field four d =
    cond_both (is_field 0xA1 0xB2 0xC3 0xD4 field) (free_at Big Microseconds) _ (Goes [] field [])
    (λ e. magic_found _ _ field (field_is 0xA1 0xB2 0xC3 0xD4 field four e) big_micro)
    (λ e. cond_both (is_field 0xD4 0xC3 0xB2 0xA1 field) (free_at Little Microseconds) _
    (Goes [] field [])
    (λ f. magic_found _ _ field (field_is 0xD4 0xC3 0xB2 0xA1 field four f) little_micro)
    (λ f. cond_both (is_field 0xA1 0xB2 0x3C 0x4D field) (free_at Big Nanoseconds) _
    (Goes [] field [])
    (λ g. magic_found _ _ field (field_is 0xA1 0xB2 0x3C 0x4D field four g) big_nano)
    (λ g. cond_both (is_field 0x4D 0x3C 0xB2 0xA1 field) (free_at Little Nanoseconds)
    (Err NoMagic) (Goes [] field [])
    (λ h. magic_found _ _ field (field_is 0x4D 0x3C 0xB2 0xA1 field four h) little_nano)
    (λ h. no_magic refl (no_section field d) (no_magic_at field e f g h)))))

magic_goes : (field : List ℕ) → length field ≡ 4 → Goes [] field [] (after_magic_at field)
magic_goes field four =
    cond_both (is_field 0x0A 0x0D 0x0D 0x0A field) (Ok (Blocks SectionSize, None)) _
    (Goes [] field [])
    (λ d. section_found field (field_is 0x0A 0x0D 0x0D 0x0A field four d))
    (λ d. pcap_goes field four d)

not_equal : (a b : ℕ) → (a == b) ≡ false → a ≡ b → ⊥
not_equal a b e = grind arith

-- ---- the header

free_goes : (clock : Clock) (before : ℕ) (word front field : List ℕ) → IsMagic clock word
    → length front ≡ 4 * before → before < 4 → length field ≡ 4
    → Goes (word ++ front) field [] (field_at (Free clock before) field)
unfolding field_at
free_goes clock before word front field m long few four =
    let longer = length-append front field in
    let Q : (s : Stage) → List ℕ → Type 0 = λ s x. AtStage s x [] in
    cond_both (nat_lt before 3) (Ok (Free clock (before + 1), None)) (Ok (Link clock, None))
    (Goes (word ++ front) field [])
    (λ e. subst (Q (Free clock (before + 1))) (sym (append_assoc word front field))
    (free clock (before + 1) word (front ++ field) m (omega (arith, longer, long, four))
    (omega (arith, ltb-true before 3 e))))
    (λ e. subst (Q (Link clock)) (sym (append_assoc word front field))
    (link clock word (front ++ field) m
    (omega (arith, longer, long, four, ltb-false before 3 e, few))))

link_goes : (clock : Clock) (word front field : List ℕ) → IsMagic clock word
    → length front ≡ 16 → length field ≡ 4
    → Goes (word ++ front) field [] (field_at (Link clock) field)
unfolding field_at
link_goes clock word front field m long four =
    cond_both (number clock.order field == 250) (Ok (Seconds clock, None)) (Err NoLink)
    (Goes (word ++ front) field [])
    (λ e. seconds clock ((word ++ front) ++ field) [] (none ((word ++ front) ++ field) (record {
      magic = word;
      free = front;
      link = field;
      is = refl;
      magic_is = m;
      free_long = long;
      link_long = four;
      link_is = eqb-true (number clock.order field) 250 e;
    })))
    (λ e. other_link clock word front refl m long (not_equal (number clock.order field) 250 e))

-- ---- the header of a packet

fraction_goes : (clock : Clock) (front first field : List ℕ) (items : List Seen)
    → ArePackets clock front items → length first ≡ 4 → length field ≡ 4
    → Goes (front ++ first) field items
    (field_at (Fraction clock (number clock.order first)) field)
unfolding field_at
fraction_goes clock front first field items p long four =
    let start : ℕ = number clock.order first * 1000000000
    + number clock.order field * nanoseconds clock.resolution in
    let Q : List ℕ → Type 0 = λ x. AtStage (Captured clock start) x items in
    same_items (Captured clock start) ((front ++ first) ++ field) items
    (subst Q (sym (append_assoc front first field))
    (captured clock front (first ++ field) start items p (record {
      seconds = first;
      fraction = field;
      is = refl;
      seconds_long = long;
      fraction_long = four;
      start_is = refl;
    })))

captured_goes : (clock : Clock) (front time field : List ℕ) (start : ℕ) (items : List Seen)
    → ArePackets clock front items → IsTime clock time start → length field ≡ 4
    → Goes (front ++ time) field items (field_at (Captured clock start) field)
unfolding field_at
captured_goes clock front time field start items p t four =
    let size : ℕ = number clock.order field in
    cond_both (nat_lt size 12) (Err Short) (Ok (Original clock start size, None))
    (Goes (front ++ time) field items)
    (λ e. short_packet clock front time items start refl p t (ltb-true size 12 e))
    (λ e. same_items (Original clock start size) ((front ++ time) ++ field) items
    (original clock front time field start items p t four (ltb-false size 12 e)))

original_goes : (clock : Clock) (front time size field : List ℕ) (start : ℕ) (items : List Seen)
    → ArePackets clock front items → IsTime clock time start → length size ≡ 4
    → 12 ≤ number clock.order size → length field ≡ 4
    → Goes ((front ++ time) ++ size) field items
    (field_at (Original clock start (number clock.order size)) field)
unfolding field_at
original_goes clock front time size field start items p t long most four =
    let count : ℕ = number clock.order size - 12 in
    let next : Stage = Packet clock (RtacSeconds start count) in
    let Q : List ℕ → Type 0 = λ x. AtStage next x (items ++ []) in
    cond_both (number clock.order field == number clock.order size) (Ok (next, None)) (Err Cut)
    (Goes ((front ++ time) ++ size) field items)
    (λ e. subst Q (spelled front time size field)
    (packet clock front time (size ++ field) [] start count (RtacSeconds start count) items [] p
    t (record {
      captured = size;
      original = field;
      is = refl;
      captured_long = long;
      original_long = four;
      captured_is = omega (arith, most);
      original_is = omega (
        arith,
        most,
        eqb-true (number clock.order field) (number clock.order size) e,
      );
    }) rtac_seconds))
    (λ e. cut_packet clock front time size items start refl p t long
    (not_equal (number clock.order field) (number clock.order size) e))
  where
    spelled : (front time size field : List ℕ)
        → (front ++ (time ++ (size ++ field))) ++ [] ≡ ((front ++ time) ++ size) ++ field
    spelled front time size field = append-nil (front ++ (time ++ (size ++ field)))
        ∙ sym (append_assoc front time (size ++ field))
        ∙ sym (append_assoc (front ++ time) size field)

-- ---- a packet

packet_goes : (clock : Clock) (front time lengths bytes : List ℕ) (start count : ℕ)
    (items these : List Seen) (next : Option Body) → ArePackets clock front items
    → IsTime clock time start → AreLengths clock lengths (12 + count)
    → BodyGoes start count bytes these next
    → AtStage (body_or (Packet clock) (Seconds clock) next)
    ((front ++ (time ++ lengths)) ++ bytes) (items ++ these)
packet_goes clock front time lengths bytes start count items these (Some body) p t l goes =
    packet clock front time lengths bytes start count body items these p t l goes
packet_goes clock front time lengths bytes start count items these None p t l goes =
    let Q : List ℕ → Type 0 = λ x. AtStage (Seconds clock) x (items ++ these) in
    subst Q (sym (append_assoc front (time ++ lengths) bytes))
    (seconds clock (front ++ ((time ++ lengths) ++ bytes)) (items ++ these)
    (more front ((time ++ lengths) ++ bytes) items these p (record {
      time = time;
      lengths = lengths;
      body = bytes;
      start = start;
      count = count;
      is = refl;
      time_is = t;
      lengths_are = l;
      record_is = goes;
    })))

moved : (stage : Stage) (front bytes last : List ℕ) (items these others : List Seen)
    → AtStage stage (front ++ (bytes ++ last)) (items ++ (these ++ others))
    → AtStage stage ((front ++ bytes) ++ last) ((items ++ these) ++ others)
moved stage front bytes last items these others at =
    let Q : List ℕ → Type 0 = λ x. AtStage stage x (items ++ (these ++ others)) in
    let R : List Seen → Type 0 = λ x. AtStage stage ((front ++ bytes) ++ last) x in
    subst R (sym (append_assoc items these others))
    (subst Q (sym (append_assoc front bytes last)) at)

-- A field or a byte of a pcapng file leads to what comes next.
block_goes : (bytes field : List ℕ) (items : List Seen) (r : Result (Block × Option Seen) PcapFault)
    → BlockGoes ((section_kind ++ bytes) ++ field) items r → LiveStep r
    → Moves (section_kind ++ bytes) field items (in_pcap_blocks r)
block_goes bytes field items (Ok next) goes live =
    blocks next.0 (bytes ++ field) (items ++ option_to_list next.1) goes live
block_goes bytes field items (Err why) goes live = tt

pub field_goes : (stage : Stage) (front field : List ℕ) (items : List Seen)
    → AtStage stage front items → takes_bytes stage ≡ false → length field ≡ 4
    → Moves front field items (field_at stage field)
unfolding field_at
field_goes stage front field items magic h four =
    moves_so [] field [] (after_magic_at field) (magic_goes field four)
field_goes stage front field items (free clock before word words m long few) h four =
    moves_so (word ++ words) field [] (field_at (Free clock before) field)
    (free_goes clock before word words field m long few four)
field_goes stage front field items (link clock word words m long) h four =
    moves_so (word ++ words) field [] (field_at (Link clock) field)
    (link_goes clock word words field m long four)
field_goes stage front field items (seconds clock _ _ p) h four =
    same_items (Fraction clock (number clock.order field)) (front ++ field) items
    (fraction clock front field items p four)
field_goes stage front field items (fraction clock packets first _ p long) h four =
    moves_so (packets ++ first) field items
    (field_at (Fraction clock (number clock.order first)) field)
    (fraction_goes clock packets first field items p long four)
field_goes stage front field items (captured clock packets time start _ p t) h four =
    moves_so (packets ++ time) field items (field_at (Captured clock start) field)
    (captured_goes clock packets time field start items p t four)
field_goes stage front field items (original clock packets time size start _ p t long most) h four =
    moves_so ((packets ++ time) ++ size) field items
    (field_at (Original clock start (number clock.order size)) field)
    (original_goes clock packets time size field start items p t long most four)
field_goes stage front field items
    (packet clock packets time lengths bytes start count body before these p t l at) h four =
    moved (body_or (Packet clock) (Seconds clock) (body_field_at body field).0)
    (packets ++ (time ++ lengths)) bytes field before these
    (option_to_list (body_field_at body field).1)
    (packet_goes clock packets time lengths (bytes ++ field) start count before
    (these ++ option_to_list (body_field_at body field).1) (body_field_at body field).0 p t l
    (body_field_goes start count body bytes field these at h four))
field_goes stage front field items (blocks block bytes _ at live) h four =
    block_goes bytes field items (block_field_at block field)
    (block_field_goes block (section_kind ++ bytes) field items at h four)
    (live_field block field live h four)

-- ---- why a field is refused

refused_in_block : (r : Result (Block × Option Seen) PcapFault) (why : PcapFault)
    → in_pcap_blocks r ≡ Err why → r ≡ Err why
refused_in_block (Ok next) why e = cc
refused_in_block (Err other) why e = ap (λ f. Err f) (ap (fault_of other) e)
  where
    fault_of : PcapFault → SteppedPcap → PcapFault
    fault_of d (Ok next) = d
    fault_of d (Err f) = f

pub field_cause : (stage : Stage) (front field : List ℕ) (items : List Seen) (why : PcapFault)
    → AtStage stage front items → takes_bytes stage ≡ false → length field ≡ 4
    → walk step_at (before_field Magic) front ≡ Ok (before_field stage, items)
    → field_at stage field ≡ Err why → IsCause front field why
unfolding field_at
field_cause stage front field items why magic h four came e =
    cause_in [] field [] (after_magic_at field) why (magic_goes field four) e
field_cause stage front field items why (free clock before word words m long few) h four came e =
    cause_in (word ++ words) field [] (field_at (Free clock before) field) why
    (free_goes clock before word words field m long few four) e
field_cause stage front field items why (link clock word words m long) h four came e =
    cause_in (word ++ words) field [] (field_at (Link clock) field) why
    (link_goes clock word words field m long four) e
field_cause stage front field items why (seconds clock _ _ p) h four came e = cc
field_cause stage front field items why (fraction clock packets first _ p long) h four came e =
    cause_in (packets ++ first) field items
    (field_at (Fraction clock (number clock.order first)) field) why
    (fraction_goes clock packets first field items p long four) e
field_cause stage front field items why (captured clock packets time start _ p t) h four came e =
    cause_in (packets ++ time) field items (field_at (Captured clock start) field) why
    (captured_goes clock packets time field start items p t four) e
field_cause stage front field items why (original clock packets time size start _ p t long most) h
    four came e =
    cause_in ((packets ++ time) ++ size) field items
    (field_at (Original clock start (number clock.order size)) field) why
    (original_goes clock packets time size field start items p t long most four) e
field_cause stage front field items why
    (packet clock packets time lengths bytes start count body before these p t l at) h four came e =
    cc
field_cause stage front field items why (blocks block bytes _ at live) h four came e =
    in_block block items why came h (refused_in_block (block_field_at block field) why e)

-- ---- single bytes

pub byte_goes : (stage : Stage) (front : List ℕ) (items : List Seen) (b : ℕ)
    → AtStage stage front items → takes_bytes stage ≡ true
    → Moves front (b ∷ []) items (byte_at stage b)
byte_goes stage front items b magic h = cc
byte_goes stage front items b (free clock before word words m long few) h = cc
byte_goes stage front items b (link clock word words m long) h = cc
byte_goes stage front items b (seconds clock _ _ p) h = cc
byte_goes stage front items b (fraction clock packets first _ p long) h = cc
byte_goes stage front items b (captured clock packets time start _ p t) h = cc
byte_goes stage front items b (original clock packets time size start _ p t long most) h = cc
byte_goes stage front items b
    (packet clock packets time lengths bytes start count body before these p t l at) h =
    moved (body_or (Packet clock) (Seconds clock) (body_byte_at body b).0)
    (packets ++ (time ++ lengths)) bytes (b ∷ []) before these
    (option_to_list (body_byte_at body b).1)
    (packet_goes clock packets time lengths (bytes ++ b ∷ []) start count before
    (these ++ option_to_list (body_byte_at body b).1) (body_byte_at body b).0 p t l
    (body_byte_goes start count body bytes these b at h))
byte_goes stage front items b (blocks block bytes _ at live) h =
    block_goes bytes (b ∷ []) items (block_byte_at block b)
    (block_byte_goes block (section_kind ++ bytes) items b at h) (live_byte block b live h)

-- If a single byte comes next, it isn't refused.
block_byte_taken : (block : Block) (byte : ℕ) (why : PcapFault) → block_takes_bytes block ≡ true
    → block_byte_at block byte ≡ Err why → ⊥
block_byte_taken (b.Packet s size left body) byte why h e = cc
block_byte_taken block byte why h e = cc

pub byte_taken : (stage : Stage) (byte : ℕ) (why : PcapFault) → takes_bytes stage ≡ true
    → byte_at stage byte ≡ Err why → ⊥
byte_taken (Blocks block) byte why h e =
    block_byte_taken block byte why h (refused_in_block (block_byte_at block byte) why e)
byte_taken stage byte why h e = cc
