-- How a pcapng file goes on to its end from each place of its reader.
use Rattle.line_stamps.specs.{Fields.before_field, Walks.walk}
use Rattle.byteorder.specs.Endian.{big_bytes, little_bytes}
use Rattle.byteorder.specs.Numbers.{big_number-reads_back, little_number-reads_back}
use Rattle.byteorder.specs.Numbers.{length-bytes_high_first, length-bytes_low_first}
use Rattle.capture_pcap.specs.BlockStep.{unread_or_end, is_size, next_option_at, block_field_at}
use Rattle.capture_pcap.specs.Blocks.{section_with, fresh, padded}
use Rattle.capture_pcap.specs.BodyStep.{body_field_at, body_byte_at, has_more}
use Rattle.capture_pcap.specs.PcapStep.{takes_bytes, field_at}
use Rattle.capture_pcap.specs.{Words.number, Words.short_number, declared.block.Block.Block}
use Rattle.capture_pcap.specs.declared.block.Kind.TheVariants.{Interface as InterfaceKind}
use Rattle.capture_pcap.specs.declared.block.Kind.TheVariants.{Packet as PacketKind}
use Rattle.capture_pcap.specs.declared.block.{Kind.TheVariants.Other as OtherKind, Section.Section}
use Rattle.capture_pcap.specs.declared.body.Body.{Body, TheVariants.Seconds as RtacSeconds}
use Rattle.capture_pcap.specs.declared.words.Order.{Order, TheVariants.Big, TheVariants.Little}
use Rattle.std.proofs.Common.{◌≡◌, ◌∙◌, ℕ, zero, suc, ◌+◌, ◌*◌, ◌-◌, ◌/◌, ◌<◌, ◌≤◌, ◌^◌, ◌==◌, ◌||◌}
use Rattle.std.proofs.Common.{nat_lt, Bool, true, false, List, [], ◌∷◌, length, replicate, None, Ok}
use Rattle.std.proofs.Common.{refl, ap, sym, subst, arith, lt-ltb, le-ltb, append-nil}
use Rattle.std.proofs.lemmas.Bool.{eq-eqb, le-leb, and_parts, ltb-true}
use Rattle.std.proofs.lemmas.List.{length-replicate}
use Rattle.capture_pcap.specs.declared.block.Block.TheVariants as b
use Rattle.capture_pcap.proofs.BlockLive.{HasField, HasBoth, Live}
use Rattle.capture_pcap.proofs.BlockSpelled.{unread_walk, blocks_or}
use Rattle.capture_pcap.proofs.Going.{GoesOn, on_walk, on_field, on_body}
use Rattle.capture_pcap.specs.declared.stage.Stage.{Stage, TheVariants.Blocks}

module _ (v : ℕ) where
  -- From this stage a file goes on, and the next item, if it has one, is a byte of this value.
  abbrev On : Stage → Type 0
  On stage = GoesOn v stage

  on_one : (from to : Block) (field : List ℕ) → takes_bytes (Blocks from) ≡ false → length field ≡ 4
      → block_field_at from field ≡ Ok (to, None) → On (Blocks to) → On (Blocks from)
  unfolding field_at
  on_one from to field h four e on = on_field v (Blocks from) (Blocks to) field h four (rw e refl) on

  on_kind : (s : Section) → On (Blocks (b.Kind s))
  unfolding walk
  on_kind s = record {
    on = record {
      more = [];
      others = [];
      last = before_field (Blocks (b.Kind s));
      walks = refl;
      end = refl;
    };
    starts = tt;
  }

  on_end : (s : Section) (size : ℕ) → HasField s.order size → On (Blocks (b.End s size))
  unfolding block_field_at
  on_end s size f =
      on_one (b.End s size) (b.Kind s) f.field refl f.long
      (rw (eq-eqb (number s.order f.field) size f.is) refl) (on_kind s)

  on_rest : (s : Section) (size left : ℕ) → HasField s.order size
      → On (Blocks (unread_or_end s size left))
  on_rest s size left f =
      let long : length (replicate left 0) ≡ left = length-replicate left 0 in
      let Q : ℕ → Type 0 = λ n. On (Blocks (unread_or_end s size n)) in
      subst Q long (on_walk v (Blocks (unread_or_end s size (length (replicate left 0))))
      (Blocks (b.End s size)) (replicate left 0) [] (unread_walk s size (replicate left 0)) tt
      (on_end s size f))

  -- ---- options

  on_option : (s : Section) (size left counts : ℕ) → HasField s.order size
      → On (Blocks (b.Option s size left counts))
  unfolding block_field_at
  on_option s size left counts f =
      let after : Section = section_with s counts in
      on_one (b.Option s size left counts) (unread_or_end after size (4 * (left - 1)))
      (0 ∷ 0 ∷ 0 ∷ 0 ∷ []) refl refl (rw (nought s.order) refl) (on_rest after size (4 * (left - 1)) f)
    where
      nought : (order : Order) → short_number order (0 ∷ 0 ∷ 0 ∷ 0 ∷ []) ≡ 0
      nought Big = refl
      nought Little = refl

  -- the place after an option, and that the file goes on from it
  record NextOn (s : Section) (size left counts : ℕ) : Type 0 where
    pub place : Block
    pub is : next_option_at s size left counts ≡ Ok (place, None)
    pub on : On (Blocks place)

  next_on : (s : Section) (size left counts : ℕ) → HasField s.order size → NextOn s size left counts
  next_on s size zero counts f = record {
    place = unread_or_end (section_with s counts) size (4 * 0);
    is = refl;
    on = on_rest (section_with s counts) size (4 * 0) f;
  }
  next_on s size (suc left) counts f =
      let some : (suc left == 0) ≡ false = not_nought (suc left) (omega arith) in
      record {
        place = b.Option s size (suc left) counts;
        is = rw some refl;
        on = on_option s size (suc left) counts f;
      }
    where
      not_nought : (n : ℕ) → 0 < n → (n == 0) ≡ false
      not_nought n h = grind arith

  on_value : (s : Section) (size left counts fields : ℕ) → HasField s.order size
      → On (Blocks (b.Value s size left counts (suc fields)))
  unfolding block_field_at
  on_value s size left counts zero f =
      let next = next_on s size left counts f in
      on_one (b.Value s size left counts 1) next.place (0 ∷ 0 ∷ 0 ∷ 0 ∷ []) refl refl next.is next.on
  on_value s size left counts (suc fields) f =
      let less : suc (suc fields) - 1 ≡ suc fields = omega arith in
      on_one (b.Value s size left counts (suc (suc fields))) (b.Value s size left counts (suc fields))
      (0 ∷ 0 ∷ 0 ∷ 0 ∷ []) refl refl
      (rw (lt-ltb 1 (suc (suc fields)) (omega arith)) (ap (λ n. Ok (b.Value s size left counts n, None)) less))
      (on_value s size left counts fields f)

  on_resolution : (s : Section) (size left : ℕ) → HasField s.order size
      → On (Blocks (b.Resolution s size left))
  unfolding block_field_at
  on_resolution s size left f =
      let next = next_on s size (left - 1) 1 f in
      on_one (b.Resolution s size left) next.place (9 ∷ 0 ∷ 0 ∷ 0 ∷ []) refl refl next.is next.on

  on_snap : (s : Section) (size : ℕ) → HasField s.order size → On (Blocks (b.Snap s size))
  unfolding block_field_at
  on_snap s size f =
      let next = next_on s size ((size - 20) / 4) 1000 f in
      on_one (b.Snap s size) next.place (0 ∷ 0 ∷ 0 ∷ 0 ∷ []) refl refl next.is next.on

  on_link : (s : Section) (size : ℕ) → HasField s.order size → On (Blocks (b.Link s size))
  unfolding block_field_at
  on_link s size f =
      by_order s.order refl
    where
      found : (link : List ℕ) → length link ≡ 4 → short_number s.order link ≡ 250
          → On (Blocks (b.Link s size))
      found link four e = on_one (b.Link s size) (b.Snap s size) link refl four
          (rw (eq-eqb (short_number s.order link) 250 e) refl) (on_snap s size f)

      by_order : (order : Order) → s.order ≡ order → On (Blocks (b.Link s size))
      by_order Big e = found (0 ∷ 250 ∷ 0 ∷ 0 ∷ []) refl
          (ap (λ o. short_number o (0 ∷ 250 ∷ 0 ∷ 0 ∷ [])) e ∙ refl)
      by_order Little e = found (250 ∷ 0 ∷ 0 ∷ 0 ∷ []) refl
          (ap (λ o. short_number o (250 ∷ 0 ∷ 0 ∷ 0 ∷ [])) e ∙ refl)

  -- ---- a packet

  on_packet : (s : Section) (size left : ℕ) (body : Body) → HasField s.order size
      → has_more body ≡ true → On (Blocks (b.Packet s size left body))
  unfolding field_at block_field_at
  on_packet s size left body f h =
      on_body v (λ x. Blocks (b.Packet s size left x)) (Blocks (unread_or_end s size left)) (λ x. refl)
      (λ x field. ap (λ y. Ok (y, (body_field_at x field).1))
      (blocks_or (b.Packet s size left) (unread_or_end s size left) (body_field_at x field).0))
      (λ x byte. ap (λ y. Ok (y, (body_byte_at x byte).1))
      (blocks_or (b.Packet s size left) (unread_or_end s size left) (body_byte_at x byte).0))
      (on_rest s size left f) body h

  on_original : (s : Section) (size start captured : ℕ) → HasField s.order size
      → HasField s.order captured → On (Blocks (b.Original s size start captured))
  unfolding block_field_at
  on_original s size start captured f c =
      on_one (b.Original s size start captured)
      (b.Packet s size (size - 32 - captured) (RtacSeconds start (captured - 12))) c.field refl c.long
      (rw (eq-eqb (number s.order c.field) captured c.is) refl)
      (on_packet s size (size - 32 - captured) (RtacSeconds start (captured - 12)) f refl)

  -- There is a field with this number.
  spelled : (order : Order) (n : ℕ) → n < 256 ^ 4 → HasField order n
  spelled Big n h = record {
    field = big_bytes 4 n;
    long = length-bytes_high_first 4 n;
    is = ap (number Big) (sym (append-nil (big_bytes 4 n))) ∙ big_number-reads_back 4 n [] h;
  }
  spelled Little n h = record {
    field = little_bytes 4 n;
    long = length-bytes_low_first 0 4 n;
    is = ap (number Little) (sym (append-nil (little_bytes 4 n))) ∙ little_number-reads_back 4 n [] h;
  }

  on_captured : (s : Section) (size start : ℕ) → HasField s.order size → 44 ≤ size
      → On (Blocks (b.Captured s size start))
  unfolding block_field_at
  on_captured s size start f most =
      let c = spelled s.order 12 (omega arith) in
      on_one (b.Captured s size start) (b.Original s size start 12) c.field refl c.long
      (rw c.is (rw (le-ltb size (padded 12 + 32) most) refl)) (on_original s size start 12 f c)

  on_low : (s : Section) (size high : ℕ) → HasField s.order size → 44 ≤ size
      → high * 4294967296 * s.counts < 2 ^ 64 → On (Blocks (b.Low s size high))
  unfolding block_field_at
  on_low s size high f most fits =
      let c = spelled s.order 0 (omega arith) in
      let start : ℕ = (high * 4294967296 + 0) * s.counts in
      let same : high * 4294967296 + 0 ≡ high * 4294967296 = omega arith in
      let small : start < 2 ^ 64 =
      let Q : ℕ → Type 0 = λ n. n * s.counts < 2 ^ 64 in subst Q (sym same) fits in
      on_one (b.Low s size high) (b.Captured s size start) c.field refl c.long
      (rw c.is (rw (lt-ltb start (2 ^ 64) small) refl)) (on_captured s size start f most)

  on_high : (s : Section) (size : ℕ) → HasField s.order size → 44 ≤ size
      → On (Blocks (b.High s size))
  unfolding block_field_at
  on_high s size f most =
      let c = spelled s.order 0 (omega arith) in
      let none : 0 * 4294967296 * s.counts ≡ 0 = nought s.counts in
      let fits : 0 * 4294967296 * s.counts < 2 ^ 64 = omega (arith, none) in
      on_one (b.High s size) (b.Low s size 0) c.field refl c.long
      (rw c.is (rw (lt-ltb (0 * 4294967296 * s.counts) (2 ^ 64) fits) refl)) (on_low s size 0 f most fits)
    where
      nought : (n : ℕ) → 0 * 4294967296 * n ≡ 0
      nought n = omega arith

  on_interface : (s : Section) (size : ℕ) → HasField s.order size → s.first < s.interfaces
      → s.first < 256 ^ 4 → 44 ≤ size → On (Blocks (b.Interface s size))
  unfolding block_field_at
  on_interface s size f known small most =
      let c = spelled s.order s.first small in
      on_one (b.Interface s size) (b.High s size) c.field refl c.long
      (rw c.is (rw (le-leb s.first s.first (omega arith), lt-ltb s.first s.interfaces known) refl))
      (on_high s size f most)

  -- ---- the length of a block

  on_size_interface : (s : Section) → On (Blocks (b.Size s InterfaceKind))
  unfolding block_field_at
  on_size_interface s =
      let c = spelled s.order 20 (omega arith) in
      on_one (b.Size s InterfaceKind) (b.Link s 20) c.field refl c.long (rw c.is refl)
      (on_link s 20 c)

  on_size_packet : (s : Section) → s.first < s.interfaces → s.first < 256 ^ 4
      → On (Blocks (b.Size s PacketKind))
  unfolding block_field_at
  on_size_packet s known small =
      let c = spelled s.order 44 (omega arith) in
      on_one (b.Size s PacketKind) (b.Interface s 44) c.field refl c.long (rw c.is refl)
      (on_interface s 44 c known small (omega arith))

  on_size_other : (s : Section) → On (Blocks (b.Size s OtherKind))
  unfolding block_field_at
  on_size_other s =
      let c = spelled s.order 12 (omega arith) in
      on_one (b.Size s OtherKind) (b.End s 12) c.field refl c.long (rw c.is refl) (on_end s 12 c)

  on_section_order : (big little : ℕ) → HasBoth big little
      → (is_size big 28 || is_size little 28) ≡ true → On (Blocks (b.SectionOrder big little))
  unfolding block_field_at
  on_section_order big little h e = by_tests (is_size big 28) (is_size little 28) refl refl e
    where
      by_tests : (t u : Bool) → is_size big 28 ≡ t → is_size little 28 ≡ u → (t || u) ≡ true
          → On (Blocks (b.SectionOrder big little))
      by_tests true u f g k =
          on_one (b.SectionOrder big little) (unread_or_end (fresh Big) big (big - 16))
          (0x1A ∷ 0x2B ∷ 0x3C ∷ 0x4D ∷ []) refl refl (rw f refl)
          (on_rest (fresh Big) big (big - 16)
          (record { field = h.field; long = h.long; is = h.is_big }))
      by_tests false true f g k =
          on_one (b.SectionOrder big little) (unread_or_end (fresh Little) little (little - 16))
          (0x4D ∷ 0x3C ∷ 0x2B ∷ 0x1A ∷ []) refl refl (rw g refl)
          (on_rest (fresh Little) little (little - 16)
          (record { field = h.field; long = h.long; is = h.is_little }))
      by_tests false false f g k = cc

  pub on_section_size : On (Blocks b.SectionSize)
  unfolding block_field_at
  on_section_size =
      let field : List ℕ = 0 ∷ 0 ∷ 0 ∷ 28 ∷ [] in
      on_one b.SectionSize (b.SectionOrder (number Big field) (number Little field)) field refl refl refl
      (on_section_order (number Big field) (number Little field)
      (record { field = field; long = refl; is_big = refl; is_little = refl }) refl)

  pub on_block : (block : Block) → Live block → On (Blocks block)
  on_block b.SectionSize l = on_section_size
  on_block (b.SectionOrder big little) l = on_section_order big little l.0 l.1
  on_block (b.Kind s) l = on_kind s
  on_block (b.Size s InterfaceKind) l = on_size_interface s
  on_block (b.Size s PacketKind) l =
      let parts = and_parts (nat_lt s.first s.interfaces) (nat_lt s.first 4294967296) l in
      on_size_packet s (ltb-true s.first s.interfaces parts.0)
      (omega (arith, ltb-true s.first 4294967296 parts.1))
  on_block (b.Size s OtherKind) l = on_size_other s
  on_block (b.Link s size) l = on_link s size l
  on_block (b.Snap s size) l = on_snap s size l
  on_block (b.Option s size left counts) l = on_option s size left counts l.0
  on_block (b.Value s size left counts fields) l = value_on fields l.1
    where
      value_on : (n : ℕ) → 0 < n → On (Blocks (b.Value s size left counts n))
      value_on zero h = absurd (omega arith)
      value_on (suc n) h = on_value s size left counts n l.0
  on_block (b.Resolution s size left) l = on_resolution s size left l.0
  on_block (b.Interface s size) l = on_interface s size l.0 l.1 l.2 l.3
  on_block (b.High s size) l = on_high s size l.0 l.1
  on_block (b.Low s size high) l = on_low s size high l.0 l.1 l.2
  on_block (b.Captured s size start) l = on_captured s size start l.0 l.1
  on_block (b.Original s size start captured) l = on_original s size start captured l.0 l.1
  on_block (b.Packet s size left body) l = on_packet s size left body l.0 l.1
  on_block (b.Unread s size left) l =
      let f : HasField s.order size = l.0 in
      let Q : Block → Type 0 = λ x. On (Blocks x) in
      let here : unread_or_end s size left ≡ b.Unread s size left = rw (lt-ltb 0 left l.1) refl in
      subst Q here (on_rest s size left f)
  on_block (b.End s size) l = on_end s size l
