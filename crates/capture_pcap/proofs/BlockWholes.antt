-- Whole blocks after a pcapng file so far.
use Rattle.capture_pcap.proofs.BlockStands.{SectionAs, size_in, SizeAs}
use Rattle.capture_pcap.specs.BlockStep.{is_size, has_room}
use Rattle.capture_pcap.specs.Blocks.{padded, section_kind, IsOrderMark, section_with, is_other}
use Rattle.capture_pcap.specs.Blocks.{fresh, AreBlocks, AreBlocks.section as section_block}
use Rattle.capture_pcap.specs.Blocks.AreBlocks.{interface as interface_block}
use Rattle.capture_pcap.specs.Blocks.AreBlocks.{packet as packet_block, other as other_block}
use Rattle.capture_pcap.specs.Blocks.IsOrderMark.{big, little}
use Rattle.capture_pcap.specs.{Record.IsRecord, Words.number, Words.is_field}
use Rattle.capture_pcap.specs.declared.block.Kind.TheVariants.{Interface as InterfaceKind}
use Rattle.capture_pcap.specs.declared.block.Kind.TheVariants.{Packet as PacketKind}
use Rattle.capture_pcap.specs.declared.block.{Kind.TheVariants.Other as OtherKind, Section.Section}
use Rattle.capture_pcap.specs.declared.words.Order.{Order, TheVariants.Big, TheVariants.Little}
use Rattle.{line_stamps.specs.declared.seen.Seen.Seen, std.proofs.Common.◌≡◌, std.proofs.Common.◌∙◌}
use Rattle.std.proofs.Common.{ℕ, ◌+◌, ◌*◌, ◌-◌, ◌%◌, ◌<◌, ◌≤◌, ◌==◌, nat_le, true, false, List, ◌∷◌}
use Rattle.std.proofs.Common.{◌++◌, length, Option, Some, refl, ap, sym, subst, arith, append_assoc}
use Rattle.std.proofs.lemmas.{Bool.and_parts, Bool.eqb-true, Bool.leb-true, List.length-append}

-- ---- whole blocks

-- a block after others, with its parts as they came and as the format has them
framed : (text kind size body again : List ℕ)
    → (((text ++ kind) ++ size) ++ body) ++ again ≡ text ++ (((kind ++ size) ++ body) ++ again)
framed text kind size body again =
    ap (λ x. x ++ again) (ap (λ x. x ++ body) (append_assoc text kind size)
    ∙ append_assoc text (kind ++ size) body)
    ∙ append_assoc text ((kind ++ size) ++ body) again

size_of : (order : Order) (size : List ℕ)
    → size_in order (number Big size) (number Little size) ≡ number order size
size_of Big size = refl
size_of Little size = refl

mark_long : (order : Order) (mark : List ℕ) → IsOrderMark order mark → length mark ≡ 4
mark_long order mark big = refl
mark_long order mark little = refl

even_of : (size least : ℕ) → is_size size least ≡ true → (least ≤ size) × (size % 4 ≡ 0)
even_of size least h =
    let parts = and_parts (nat_le least size) (size % 4 == 0) h in
    (leb-true least size parts.0, eqb-true (size % 4) 0 parts.1)

pub section_as : (before : Option Section) (text : List ℕ) (items : List Seen)
    → AreBlocks before text items → SectionAs (text ++ section_kind) items
section_as before text items blocks = λ size size_long. λ order mark m ok. λ rest long.
    λ again four is.
    let number_is : size_in order (number Big size) (number Little size) ≡ number order size =
    size_of order size in
    let fits = even_of (size_in order (number Big size) (number Little size)) 28 ok in
    let marked = mark_long order mark m in
    let body_long : 12 + length (mark ++ rest) ≡ number order size =
    omega (arith, length-append mark rest, marked, long, fits.0, number_is) in
    let even : (12 + length (mark ++ rest)) % 4 ≡ 0 =
    ap (λ n. n % 4) (body_long ∙ sym number_is) ∙ fits.1 in
    let spelled : ((((text ++ section_kind) ++ size) ++ mark) ++ rest) ++ again
    ≡ text ++ (((section_kind ++ size) ++ (mark ++ rest)) ++ again) =
    ap (λ x. x ++ again) (append_assoc ((text ++ section_kind) ++ size) mark rest)
    ∙ framed text section_kind size (mark ++ rest) again in
    let Q : List ℕ → Type 0 = λ x. AreBlocks (Some (fresh order)) x items in
    subst Q (sym spelled) (section_block before order text
    (((section_kind ++ size) ++ (mark ++ rest)) ++ again) items blocks (record {
      mark = mark;
      rest = rest;
      block = record {
        size = size;
        again = again;
        is = refl;
        kind_long = refl;
        size_long = size_long;
        again_long = four;
        size_is = sym body_long;
        again_is = is ∙ number_is ∙ sym body_long;
        even = even;
      };
      mark_is = m;
      whole = omega (arith, long, fits.0);
    }))

pub interface_as : (s : Section) (text kind : List ℕ) (items : List Seen)
    → AreBlocks (Some s) text items → s.interfaces < 4294967295 → length kind ≡ 4
    → number s.order kind ≡ 1 → SizeAs s InterfaceKind (text ++ kind) items
interface_as s text kind items blocks has_room kind_long kind_is = λ size size_long. λ ok.
    λ link link_long link_is. λ snap snap_long. λ options to are_options long. λ again four is.
    let fits = even_of (number s.order size) 20 ok in
    let body : List ℕ = (link ++ snap) ++ options in
    let head : List ℕ = (text ++ kind) ++ size in
    let body_long : 12 + length body ≡ number s.order size =
    omega (
      arith,
      length-append (link ++ snap) options,
      length-append link snap,
      link_long,
      snap_long,
      long,
      fits.0,
      fits.1,
    ) in
    let spelled : (((head ++ link) ++ snap) ++ options) ++ again
    ≡ text ++ (((kind ++ size) ++ body) ++ again) =
    ap (λ x. x ++ again) (ap (λ x. x ++ options) (append_assoc head link snap)
    ∙ append_assoc head (link ++ snap) options)
    ∙ framed text kind size body again in
    let Q : List ℕ → Type 0 = λ x. AreBlocks (Some (section_with s to)) x items in
    subst Q (sym spelled) (interface_block s to text (((kind ++ size) ++ body) ++ again) items
    blocks has_room (record {
      kind = kind;
      link = link;
      snap = snap;
      options = options;
      block = record {
        size = size;
        again = again;
        is = refl;
        kind_long = kind_long;
        size_long = size_long;
        again_long = four;
        size_is = sym body_long;
        again_is = is ∙ sym body_long;
        even = ap (λ n. n % 4) body_long ∙ fits.1;
      };
      kind_is = kind_is;
      link_long = link_long;
      link_is = link_is;
      snap_long = snap_long;
      options_are = are_options;
    }))

pub other_as : (s : Section) (text kind : List ℕ) (items : List Seen)
    → AreBlocks (Some s) text items → length kind ≡ 4 → is_other (number s.order kind) ≡ true
    → is_field 0x0A 0x0D 0x0D 0x0A kind ≡ false → SizeAs s OtherKind (text ++ kind) items
other_as s text kind items blocks kind_long kind_is apart = λ size size_long. λ ok. λ body long.
    λ again four is.
    let fits = even_of (number s.order size) 12 ok in
    let body_long : 12 + length body ≡ number s.order size = omega (arith, long, fits.0) in
    let Q : List ℕ → Type 0 = λ x. AreBlocks (Some s) x items in
    subst Q (sym (framed text kind size body again)) (other_block s text
    (((kind ++ size) ++ body) ++ again) items blocks (record {
      kind = kind;
      body = body;
      block = record {
        size = size;
        again = again;
        is = refl;
        kind_long = kind_long;
        size_long = size_long;
        again_long = four;
        size_is = sym body_long;
        again_is = is ∙ sym body_long;
        even = ap (λ n. n % 4) body_long ∙ fits.1;
      };
      other = kind_is;
      apart = apart;
    }))

-- the parts of a packet's block, as they came and as the format has them
gathered : (head a c d e f g rest : List ℕ)
    → ((((((head ++ a) ++ c) ++ d) ++ e) ++ f) ++ g) ++ rest
    ≡ head ++ ((((((a ++ c) ++ d) ++ e) ++ f) ++ g) ++ rest)
gathered head a c d e f g rest =
    ap (λ x. x ++ rest) (ap (λ x. x ++ g) (ap (λ x. x ++ f) (ap (λ x. x ++ e) (ap (λ x. x ++ d)
    (append_assoc head a c) ∙ append_assoc head (a ++ c) d)
    ∙ append_assoc head ((a ++ c) ++ d) e) ∙ append_assoc head (((a ++ c) ++ d) ++ e) f)
    ∙ append_assoc head ((((a ++ c) ++ d) ++ e) ++ f) g)
    ∙ append_assoc head (((((a ++ c) ++ d) ++ e) ++ f) ++ g) rest

gathered_long : (a c d e f g rest : List ℕ) → length a ≡ 4 → length c ≡ 4 → length d ≡ 4
    → length e ≡ 4 → length f ≡ 4
    → length ((((((a ++ c) ++ d) ++ e) ++ f) ++ g) ++ rest) ≡ 20 + length g + length rest
gathered_long a c d e f g rest la lc ld le lf =
    omega (
      arith,
      length-append (((((a ++ c) ++ d) ++ e) ++ f) ++ g) rest,
      length-append ((((a ++ c) ++ d) ++ e) ++ f) g,
      length-append (((a ++ c) ++ d) ++ e) f,
      length-append ((a ++ c) ++ d) e,
      length-append (a ++ c) d,
      length-append a c,
      la,
      lc,
      ld,
      le,
      lf,
    )

record_long : (start count : ℕ) (packet : List ℕ) (items : List Seen)
    → IsRecord start count packet items → length packet ≡ 12 + count
record_long start count packet items r =
    ap length r.is ∙ omega (
      arith,
      length-append ((r.seconds ++ r.microseconds) ++ r.event ∷ r.others) r.payload,
      length-append (r.seconds ++ r.microseconds) (r.event ∷ r.others),
      length-append r.seconds r.microseconds,
      r.seconds_long,
      r.microseconds_long,
      r.others_long,
      r.payload_long,
    )

pub packet_as : (s : Section) (text kind : List ℕ) (items : List Seen)
    → AreBlocks (Some s) text items → s.first < 4294967296 → length kind ≡ 4
    → number s.order kind ≡ 6 → SizeAs s PacketKind (text ++ kind) items
packet_as s text kind items blocks numbered kind_long kind_is = λ size size_long. λ ok.
    λ interface interface_long alike known. λ high high_long. λ low low_long small.
    λ captured captured_long most room. λ original original_long same_size. λ packet these r.
    λ rest long again four is.
    let fits = even_of (number s.order size) 44 ok in
    let taken : ℕ = number s.order captured in
    let count : ℕ = taken - 12 in
    let body : List ℕ =
    (((((interface ++ high) ++ low) ++ captured) ++ original) ++ packet) ++ rest in
    let packet_long : length packet ≡ 12 + count = record_long _ count packet these r in
    let body_long : 12 + length body ≡ number s.order size =
    omega (
      arith,
      gathered_long interface high low captured original packet rest interface_long
          high_long low_long captured_long original_long,
      packet_long,
      long,
      most,
      padded_most taken,
      room,
    ) in
    let Q : List ℕ → Type 0 = λ x. AreBlocks (Some s) x (items ++ these) in
    subst Q (sym (ap (λ x. x ++ again) (gathered ((text ++ kind) ++ size) interface high low captured
    original packet rest) ∙ framed text kind size body again))
    (packet_block s text (((kind ++ size) ++ body) ++ again) items these blocks (record {
      kind = kind;
      interface = interface;
      high = high;
      low = low;
      captured = captured;
      original = original;
      packet = packet;
      rest = rest;
      start = (number s.order high * 4294967296 + number s.order low) * s.counts;
      count = count;
      block = record {
        size = size;
        again = again;
        is = refl;
        kind_long = kind_long;
        size_long = size_long;
        again_long = four;
        size_is = sym body_long;
        again_is = is ∙ sym body_long;
        even = ap (λ n. n % 4) body_long ∙ fits.1;
      };
      kind_is = kind_is;
      interface_long = interface_long;
      high_long = high_long;
      low_long = low_long;
      captured_long = captured_long;
      original_long = original_long;
      numbered = numbered;
      interface_alike = alike;
      interface_is = known;
      start_is = refl;
      fits = small;
      captured_is = omega (arith, most);
      original_is = omega (arith, most, same_size);
      padding = padding_of taken (number s.order size) (length rest) most room long;
      record_is = r;
    }))
  where
    padded_most : (n : ℕ) → n ≤ padded n
    padded_most n = omega arith

    padding_of : (n size left : ℕ) → 12 ≤ n → padded n + 32 ≤ size → left ≡ size - 32 - n
        → padded (12 + (n - 12)) ≤ 12 + (n - 12) + left
    padding_of n size left most room is =
        let whole : 12 + (n - 12) ≡ n = omega (arith, most) in
        rw whole (omega (arith, room, is, padded_most n))
