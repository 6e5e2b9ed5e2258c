-- Where a reader gets to over the blocks of a right pcapng file.
use Rattle.line_stamps.{proofs.FieldLaws.single_walk, specs.Walks.walk}
use Rattle.capture_pcap.specs.BlockStep.{SteppedBlock, unread_or_end, is_size, after_order, after_kind}
use Rattle.capture_pcap.specs.BlockStep.{after_options, next_option_at, over_fields, after_option}
use Rattle.capture_pcap.specs.BlockStep.{after_value, after_captured, after_original}
use Rattle.capture_pcap.specs.BlockStep.{block_field_at, after_section_size, has_room}
use Rattle.capture_pcap.specs.Blocks.{padded, counts_at, section_kind, IsOrderMark, IsSection}
use Rattle.capture_pcap.specs.Blocks.{is_plain, AreOptions, IsInterface, section_with, IsEnhanced}
use Rattle.capture_pcap.specs.Blocks.{is_other, IsOther, fresh, AreBlocks}
use Rattle.capture_pcap.specs.Blocks.AreBlocks.{nothing as no_block, section as section_block}
use Rattle.capture_pcap.specs.Blocks.AreBlocks.{interface as interface_block}
use Rattle.capture_pcap.specs.Blocks.AreBlocks.{packet as packet_block, other as other_block}
use Rattle.capture_pcap.specs.Blocks.AreOptions.{none as no_option, ended as ended_option}
use Rattle.capture_pcap.specs.Blocks.AreOptions.{plain as plain_option}
use Rattle.capture_pcap.specs.Blocks.{AreOptions.resolution as resolution_option, IsOrderMark.big}
use Rattle.capture_pcap.specs.{Blocks.IsOrderMark.little, BodyStep.body_field_at}
use Rattle.capture_pcap.specs.{BodyStep.body_byte_at, BodyStep.body_or, PcapStep.takes_bytes}
use Rattle.capture_pcap.specs.{PcapStep.field_at, PcapStep.byte_at, Record.IsRecord, Words.number}
use Rattle.capture_pcap.specs.{Words.short_number, Words.is_field, declared.block.Block.Block}
use Rattle.capture_pcap.specs.declared.block.Kind.TheVariants.{Interface as InterfaceKind}
use Rattle.capture_pcap.specs.declared.block.Kind.TheVariants.{Packet as PacketKind}
use Rattle.capture_pcap.specs.declared.block.{Kind.TheVariants.Other as OtherKind, Section.Section}
use Rattle.capture_pcap.specs.declared.body.Body.{Body, TheVariants.Seconds as RtacSeconds}
use Rattle.capture_pcap.specs.declared.fault.PcapFault.TheVariants.{Option as WrongOption}
use Rattle.capture_pcap.specs.declared.fault.PcapFault.TheVariants.{Interface as NoInterface}
use Rattle.capture_pcap.specs.declared.fault.PcapFault.TheVariants.{Timeless}
use Rattle.capture_pcap.specs.declared.fault.PcapFault.TheVariants.{Resolution as OtherResolution}
use Rattle.capture_pcap.specs.declared.words.Order.{Order, TheVariants.Big, TheVariants.Little}
use Rattle.line_stamps.specs.declared.seen.Seen.{Seen}
use Rattle.std.proofs.Common.{◌≡◌, ◌∙◌, ℕ, zero, suc, ◌+◌, ◌*◌, ◌-◌, ◌/◌, ◌%◌, ◌<◌, ◌≤◌, ◌^◌, ◌==◌}
use Rattle.std.proofs.Common.{◌&&◌, ◌||◌, not, nat_lt, Bool, true, false, List, [], ◌∷◌, ◌++◌}
use Rattle.std.proofs.Common.{if◌then◌else◌, length, drop, Option, Some, None, Ok, Err, refl, ap}
use Rattle.std.proofs.Common.{sym, subst, arith, append_assoc, append-nil, cond, lt-ltb, le-ltb}
use Rattle.std.proofs.Common.{slice_index}
use Rattle.std.proofs.lemmas.{Bool.eq-eqb, Bool.le-leb, List.length-append}
use Rattle.capture_pcap.specs.declared.block.Block.TheVariants as b
use Rattle.capture_pcap.proofs.{Bodies.record_walk, FieldFacts.field_is}
use Rattle.capture_pcap.proofs.Walked.{Walks, one_field, both, four_of}
use Rattle.capture_pcap.specs.declared.stage.Stage.{Stage, TheVariants.Magic, TheVariants.Blocks}

-- Over no bytes a reader stays where it is.
stays : (stage : Stage) → Walks stage [] stage []
unfolding walk
stays stage = record { is = refl }

one : (from to : Block) (field : List ℕ) → takes_bytes (Blocks from) ≡ false → length field ≡ 4
    → block_field_at from field ≡ Ok (to, None) → Walks (Blocks from) field (Blocks to) []
unfolding field_at
one from to field h four e =
    one_field (Blocks from) (Blocks to) field None h four (rw e refl)

followed : (from through to : Block) (first second : List ℕ) → Walks (Blocks from) first (Blocks through) []
    → Walks (Blocks through) second (Blocks to) [] → Walks (Blocks from) (first ++ second) (Blocks to) []
followed from through to first second v w =
    both (Blocks from) (Blocks through) (Blocks to) first second [] [] v w

-- ---- the end of a block

pub unread_walk : (s : Section) (size : ℕ) (rest : List ℕ)
    → Walks (Blocks (unread_or_end s size (length rest))) rest (Blocks (b.End s size)) []
unread_walk s size [] = stays (Blocks (b.End s size))
unread_walk s size (byte ∷ rest) =
    let left : length (byte ∷ rest) - 1 ≡ length rest = omega arith in
    let some : nat_lt 0 (length (byte ∷ rest)) ≡ true =
    lt-ltb 0 (length (byte ∷ rest)) (omega arith) in
    let next : Block = unread_or_end s size (length rest) in
    let from : Block = b.Unread s size (length (byte ∷ rest)) in
    let Q : Block → Type 0 = λ x. Walks (Blocks x) (byte ∷ rest) (Blocks (b.End s size)) [] in
    let here : unread_or_end s size (length (byte ∷ rest)) ≡ from = rw some refl in
    subst Q (sym here)
    (both (Blocks from) (Blocks next) (Blocks (b.End s size)) (byte ∷ []) rest [] []
    (record {
      is = single_walk takes_bytes field_at byte_at (Blocks from) (Blocks next) byte None refl
          (ap (λ n. Ok (Blocks (unread_or_end s size n), None)) left);
    })
    (unread_walk s size rest))

pub end_walk : (s : Section) (size : ℕ) (again : List ℕ) → length again ≡ 4
    → number s.order again ≡ size → Walks (Blocks (b.End s size)) again (Blocks (b.Kind s)) []
unfolding block_field_at
end_walk s size again four e =
    one (b.End s size) (b.Kind s) again refl four (rw (eq-eqb (number s.order again) size e) refl)

-- Over the bytes that are left of a block, and its length again, a reader gets to the next block.
close_walk : (s : Section) (size left : ℕ) (rest again : List ℕ) → length rest ≡ left
    → length again ≡ 4 → number s.order again ≡ size
    → Walks (Blocks (unread_or_end s size left)) (rest ++ again) (Blocks (b.Kind s)) []
close_walk s size left rest again long four e =
    let Q : ℕ → Type 0 = λ n. Walks (Blocks (unread_or_end s size n)) (rest ++ again)
    (Blocks (b.Kind s)) [] in
    subst Q long
    (followed (unread_or_end s size (length rest)) (b.End s size) (b.Kind s) rest again
    (unread_walk s size rest) (end_walk s size again four e))

is_size_of : (size least : ℕ) → least ≤ size → size % 4 ≡ 0 → is_size size least ≡ true
is_size_of size least h e = rw (le-leb least size h, eq-eqb (size % 4) 0 e) refl

-- ---- sections

either : (t u : Bool) → (t ≡ true) → (t || u) ≡ true
either t u h = rw h refl

either_other : (t u : Bool) → (u ≡ true) → (t || u) ≡ true
either_other true u h = refl
either_other false u h = h

section_sized : (order : Order) (size : List ℕ) → is_size (number order size) 28 ≡ true
    → after_section_size (number Big size) (number Little size)
    ≡ Ok (b.SectionOrder (number Big size) (number Little size), None)
section_sized Big size ok =
    rw (either (is_size (number Big size) 28) (is_size (number Little size) 28) ok) refl
section_sized Little size ok =
    rw (either_other (is_size (number Big size) 28) (is_size (number Little size) 28) ok) refl

marked : (order : Order) (size mark : List ℕ) → IsOrderMark order mark
    → is_size (number order size) 28 ≡ true
    → after_order mark (number Big size) (number Little size)
    ≡ Ok (unread_or_end (fresh order) (number order size) (number order size - 16), None)
marked order size mark big ok = rw ok refl
marked order size mark little ok = rw ok refl

mark_long : (order : Order) (mark : List ℕ) → IsOrderMark order mark → length mark ≡ 4
mark_long order mark big = refl
mark_long order mark little = refl

-- the header of a section, after its kind
section_walk : (order : Order) (size mark rest again : List ℕ) → length size ≡ 4
    → IsOrderMark order mark → 12 ≤ length rest → length again ≡ 4
    → number order size ≡ 12 + length (mark ++ rest) → number order again ≡ 12 + length (mark ++ rest)
    → (12 + length (mark ++ rest)) % 4 ≡ 0
    → Walks (Blocks b.SectionSize) (size ++ ((mark ++ rest) ++ again)) (Blocks (b.Kind (fresh order))) []
unfolding block_field_at
section_walk order size mark rest again size_long m whole four size_is again_is even =
    let n : ℕ = number order size in
    let long = mark_long order mark m in
    let sum : n ≡ 16 + length rest = omega (arith, size_is, length-append mark rest, long) in
    let ok : is_size n 28 ≡ true =
    is_size_of n 28 (omega (arith, sum, whole)) (ap (λ k. k % 4) size_is ∙ even) in
    let Q : List ℕ → Type 0 = λ x. Walks (Blocks b.SectionSize) (size ++ x)
    (Blocks (b.Kind (fresh order))) [] in
    subst Q (sym (append_assoc mark rest again))
    (followed b.SectionSize (b.SectionOrder (number Big size) (number Little size)) (b.Kind (fresh order))
    size (mark ++ (rest ++ again))
    (one b.SectionSize (b.SectionOrder (number Big size) (number Little size)) size refl size_long
    (section_sized order size ok))
    (followed (b.SectionOrder (number Big size) (number Little size))
    (unread_or_end (fresh order) n (n - 16)) (b.Kind (fresh order)) mark (rest ++ again)
    (one (b.SectionOrder (number Big size) (number Little size))
    (unread_or_end (fresh order) n (n - 16)) mark refl long (marked order size mark m ok))
    (close_walk (fresh order) n (n - 16) rest again (omega (arith, sum)) four
    (again_is ∙ sym size_is))))

-- ---- options

-- the place of a reader before these options of an interface, from which it gets over them to the
-- end of the block
record OptionsWalk (s : Section) (size left counts to : ℕ) (options : List ℕ) : Type 0 where
  pub place : Block
  pub stepped : next_option_at s size left counts ≡ Ok (place, None)
  pub walks : Walks (Blocks place) options (Blocks (b.End (section_with s to) size)) []

more_fields : (s : Section) (size left counts fields : ℕ) → 1 < fields
    → after_value s size left counts fields ≡ Ok (b.Value s size left counts (fields - 1), None)
more_fields s size left counts fields h = rw (lt-ltb 1 fields h) refl

last_field : (s : Section) (size left counts : ℕ) (place : Block)
    → next_option_at s size left counts ≡ Ok (place, None)
    → after_value s size left counts 1 ≡ Ok (place, None)
last_field s size left counts place e = e

-- Over the fields of an option's value a reader gets to what follows the option.
value_walk : (s : Section) (size left counts fields : ℕ) (value : List ℕ) (place : Block)
    → length value ≡ 4 * suc fields → next_option_at s size left counts ≡ Ok (place, None)
    → Walks (Blocks (b.Value s size left counts (suc fields))) value (Blocks place) []
unfolding block_field_at
value_walk s size left counts zero value place long e =
    one (b.Value s size left counts 1) place value refl (omega (arith, long))
    (last_field s size left counts place e)
value_walk s size left counts (suc fields) value place long e =
    let four = four_of value (4 * suc fields) (omega (arith, long)) in
    let less : suc (suc fields) - 1 ≡ suc fields = omega arith in
    let Q : List ℕ → Type 0 = λ x.
    Walks (Blocks (b.Value s size left counts (suc (suc fields)))) x (Blocks place) [] in
    subst Q (sym four.is)
    (followed (b.Value s size left counts (suc (suc fields))) (b.Value s size left counts (suc fields)) place
    four.first four.rest
    (one (b.Value s size left counts (suc (suc fields))) (b.Value s size left counts (suc fields))
    four.first refl four.first_long
    (more_fields s size left counts (suc (suc fields)) (omega arith)
    ∙ ap (λ n. Ok (b.Value s size left counts n, None)) less))
    (value_walk s size left counts fields four.rest place four.rest_long e))

some_left : (s : Section) (size left counts : ℕ) → 0 < left
    → next_option_at s size left counts ≡ Ok (b.Option s size left counts, None)
some_left s size left counts h =
    let test : (left == 0) ≡ false = not_nought left h in rw test refl
  where
    not_nought : (n : ℕ) → 0 < n → (n == 0) ≡ false
    not_nought n h = grind arith

options_ended : (s : Section) (size left counts : ℕ) (head rest : List ℕ) → length head ≡ 4
    → short_number s.order head ≡ 0 → length (head ++ rest) ≡ 4 * left
    → OptionsWalk s size left counts counts (head ++ rest)
unfolding block_field_at
options_ended s size left counts head rest four code long =
    let sum = length-append head rest in
    let some : 0 < left = omega (arith, sum, four, long) in
    let rest_long : length rest ≡ 4 * (left - 1) = omega (arith, sum, four, long) in
    let after : Section = section_with s counts in
    let next : Block = unread_or_end after size (4 * (left - 1)) in
    let Q : ℕ → Type 0 = λ n.
    Walks (Blocks (unread_or_end after size n)) rest (Blocks (b.End after size)) [] in
    record {
      place = b.Option s size left counts;
      stepped = some_left s size left counts some;
      walks = followed (b.Option s size left counts) next (b.End after size) head rest
          (one (b.Option s size left counts) next head refl four (rw (eq-eqb _ 0 code) refl))
          (subst Q rest_long (unread_walk after size rest));
    }

-- An option that says nothing of times is passed over.
plain_step : (s : Section) (size left counts : ℕ) (head : List ℕ)
    → is_plain (short_number s.order head) ≡ true
    → (short_number s.order (drop 2 head) + 3) / 4 ≤ left
    → after_option s size left counts head
    ≡ over_fields s size left counts ((short_number s.order (drop 2 head) + 3) / 4)
plain_step s size left counts head h few =
    by_tests (short_number s.order head == 0) (short_number s.order head == 9)
    (short_number s.order head == 14) h
  where
    fields : ℕ
    fields = (short_number s.order (drop 2 head) + 3) / 4

    by_tests : (t u v : Bool) → (not t && not u && not v) ≡ true
        → cond t (after_options s size left counts)
        (cond u (cond ((short_number s.order (drop 2 head) == 1) && nat_lt 0 left)
        (Ok (b.Resolution s size left, None)) (Err OtherResolution))
        (cond (v || nat_lt left fields) (Err WrongOption) (over_fields s size left counts fields)))
        ≡ over_fields s size left counts fields
    by_tests true u v g = cc
    by_tests false true v g = cc
    by_tests false false true g = cc
    by_tests false false false g = rw (le-ltb left fields few) refl

over_some : (s : Section) (size left counts fields : ℕ)
    → over_fields s size left counts (suc fields)
    ≡ Ok (b.Value s size (left - suc fields) counts (suc fields), None)
over_some s size left counts fields = let test = not_nought (suc fields) (omega arith) in rw test refl
  where
    not_nought : (n : ℕ) → 0 < n → (n == 0) ≡ false
    not_nought n h = grind arith

options_plain : (s : Section) (size left counts to fields : ℕ) (head value more : List ℕ)
    → length head ≡ 4 → is_plain (short_number s.order head) ≡ true
    → fields ≡ (short_number s.order (drop 2 head) + 3) / 4 → length value ≡ 4 * fields
    → length (head ++ (value ++ more)) ≡ 4 * left
    → OptionsWalk s size (left - 1 - fields) counts to more
    → OptionsWalk s size left counts to (head ++ (value ++ more))
unfolding block_field_at
options_plain s size left counts to zero head value more four code fields_are long whole w =
    let sum = length-append head (value ++ more) in
    let sum_more = length-append value more in
    let some : 0 < left = omega (arith, sum, four, whole) in
    let none : (short_number s.order (drop 2 head) + 3) / 4 ≡ 0 = sym fields_are in
    let left_is : left - 1 - 0 ≡ left - 1 = omega arith in
    let stepped : next_option_at s size (left - 1) counts ≡ Ok (w.place, None) =
    ap (λ n. next_option_at s size n counts) (sym left_is) ∙ w.stepped in
    record {
      place = b.Option s size left counts;
      stepped = some_left s size left counts some;
      walks = followed (b.Option s size left counts) w.place (b.End (section_with s to) size) head
          (value ++ more)
          (one (b.Option s size left counts) w.place head refl four
          (plain_step s size (left - 1) counts head code (omega (arith, none))
          ∙ rw none stepped))
          (no_value value more w.place (b.End (section_with s to) size) (omega (arith, long))
          w.walks);
    }
  where
    no_value : (value more : List ℕ) (from last : Block) → length value ≡ 0
        → Walks (Blocks from) more (Blocks last) []
        → Walks (Blocks from) (value ++ more) (Blocks last) []
    no_value [] more from last h w = w
    no_value (c ∷ value) more from last h w = absurd (omega arith)
options_plain s size left counts to (suc fields) head value more four code fields_are long whole w =
    let sum = length-append head (value ++ more) in
    let sum_more = length-append value more in
    let some : 0 < left = omega (arith, sum, four, whole) in
    let few : suc fields ≤ left - 1 = omega (arith, sum, sum_more, four, long, whole) in
    let next : Block = b.Value s size (left - 1 - suc fields) counts (suc fields) in
    record {
      place = b.Option s size left counts;
      stepped = some_left s size left counts some;
      walks = followed (b.Option s size left counts) next (b.End (section_with s to) size) head
          (value ++ more)
          (one (b.Option s size left counts) next head refl four
          (plain_step s size (left - 1) counts head code (omega (arith, few, fields_are))
          ∙ ap (λ n. over_fields s size (left - 1) counts n) (sym fields_are)
          ∙ over_some s size (left - 1) counts fields))
          (followed next w.place (b.End (section_with s to) size) value more
          (value_walk s size (left - 1 - suc fields) counts fields value w.place long w.stepped)
          w.walks);
    }

options_resolution : (s : Section) (size left counts new to : ℕ) (head value more : List ℕ)
    → length head ≡ 4 → short_number s.order head ≡ 9 → short_number s.order (drop 2 head) ≡ 1
    → length value ≡ 4 → counts_at (slice_index value 0) ≡ Some new
    → length (head ++ (value ++ more)) ≡ 4 * left → OptionsWalk s size (left - 2) new to more
    → OptionsWalk s size left counts to (head ++ (value ++ more))
unfolding block_field_at
options_resolution s size left counts new to head value more four code long value_long is whole w =
    let sum = length-append head (value ++ more) in
    let sum_more = length-append value more in
    let some : 0 < left = omega (arith, sum, four, whole) in
    let more_left : 0 < left - 1 = omega (arith, sum, sum_more, four, value_long, whole) in
    let next : Block = b.Resolution s size (left - 1) in
    let left_is : left - 1 - 1 ≡ left - 2 = omega arith in
    let zero_test : (short_number s.order head == 0) ≡ false = rw code refl in
    let nine_test : (short_number s.order head == 9) ≡ true = rw code refl in
    let one_test : (short_number s.order (drop 2 head) == 1) ≡ true = rw long refl in
    let left_test : nat_lt 0 (left - 1) ≡ true = lt-ltb 0 (left - 1) more_left in
    record {
      place = b.Option s size left counts;
      stepped = some_left s size left counts some;
      walks = followed (b.Option s size left counts) next (b.End (section_with s to) size) head
          (value ++ more)
          (one (b.Option s size left counts) next head refl four
          (rw (zero_test, nine_test, one_test, left_test) refl))
          (followed next w.place (b.End (section_with s to) size) value more
          (one next w.place value refl value_long
          (rw is (ap (λ n. next_option_at s size n new) left_is ∙ w.stepped)))
          w.walks);
    }

options_walk : (s : Section) (size left counts to : ℕ) (options : List ℕ)
    → AreOptions s.order counts options to → length options ≡ 4 * left
    → OptionsWalk s size left counts to options
options_walk s size left counts to options (no_option _) long =
    let none : left ≡ 0 = omega (arith, long) in
    record {
      place = unread_or_end (section_with s counts) size (4 * left);
      stepped = rw none refl;
      walks = rw none (stays (Blocks (b.End (section_with s counts) size)));
    }
options_walk s size left counts to options (ended_option _ head rest four code) long =
    options_ended s size left counts head rest four code long
options_walk s size left counts to options
    (plain_option _ _ head value more four code value_long are) long =
    let fields : ℕ = (short_number s.order (drop 2 head) + 3) / 4 in
    let sum = length-append head (value ++ more) in
    let sum_more = length-append value more in
    options_plain s size left counts to fields head value more four code refl
    (omega (arith, value_long)) long
    (options_walk s size (left - 1 - fields) counts to more are
    (omega (arith, sum, sum_more, four, value_long, long)))
options_walk s size left counts to options
    (resolution_option _ new _ head value more four code one_byte value_long is are) long =
    let sum = length-append head (value ++ more) in
    let sum_more = length-append value more in
    options_resolution s size left counts new to head value more four code one_byte value_long is long
    (options_walk s size (left - 2) new to more are
    (omega (arith, sum, sum_more, four, value_long, long)))

-- ---- whole blocks

kind_long_field : (order : Order) (kind : List ℕ) (n : ℕ) → length kind ≡ 4
    → number order kind ≡ n → (n ≡ 168627466 → ⊥) → is_field 0x0A 0x0D 0x0D 0x0A kind ≡ false
kind_long_field order kind n four e apart =
    by_test (is_field 0x0A 0x0D 0x0D 0x0A kind) refl
  where
    section_number : (order : Order) → number order section_kind ≡ 168627466
    section_number Big = refl
    section_number Little = refl

    by_test : (t : Bool) → is_field 0x0A 0x0D 0x0D 0x0A kind ≡ t → t ≡ false
    by_test false h = refl
    by_test true h = absurd (apart (sym e ∙ ap (number order)
        (field_is 0x0A 0x0D 0x0D 0x0A kind four h) ∙ section_number order))

interface_kind : (s : Section) (kind : List ℕ) → length kind ≡ 4 → number s.order kind ≡ 1
    → s.interfaces < 4294967295 → after_kind s kind ≡ Ok (b.Size s InterfaceKind, None)
interface_kind s kind four e h =
    rw (
      kind_long_field s.order kind 1 four e (λ g. absurd (omega arith)),
      e,
      lt-ltb s.interfaces 4294967295 h,
    ) refl

packet_kind : (s : Section) (kind : List ℕ) → length kind ≡ 4 → number s.order kind ≡ 6
    → s.first < s.interfaces → s.first < 4294967296
    → after_kind s kind ≡ Ok (b.Size s PacketKind, None)
packet_kind s kind four e h small =
    rw (
      kind_long_field s.order kind 6 four e (λ g. absurd (omega arith)),
      e,
      lt-ltb s.first s.interfaces h,
      lt-ltb s.first 4294967296 small,
    ) refl

-- what comes after the kind of a block, by the results of the tests for kinds
abbrev picked : Section → Bool → Bool → Bool → SteppedBlock
picked s t u v =
    if t && has_room s InterfaceKind then Ok (b.Size s InterfaceKind, None)
    else if u && has_room s PacketKind then Ok (b.Size s PacketKind, None)
    else if t || u then Err NoInterface
    else if v then Err Timeless
    else Ok (b.Size s OtherKind, None)

picked_other : (s : Section) (t u v : Bool) → (not t && not u && not v) ≡ true
    → picked s t u v ≡ Ok (b.Size s OtherKind, None)
picked_other s true u v g = cc
picked_other s false true v g = cc
picked_other s false false true g = cc
picked_other s false false false g = refl

other_kind : (s : Section) (kind : List ℕ) → is_other (number s.order kind) ≡ true
    → is_field 0x0A 0x0D 0x0D 0x0A kind ≡ false
    → after_kind s kind ≡ Ok (b.Size s OtherKind, None)
other_kind s kind h e = rw e (picked_other s (number s.order kind == 1) (number s.order kind == 6)
    (number s.order kind == 2 || number s.order kind == 3) h)

sized : (order : Order) (size : List ℕ) (least long : ℕ) → number order size ≡ 12 + long
    → (12 + long) % 4 ≡ 0 → least ≤ 12 + long → is_size (number order size) least ≡ true
sized order size least long e even h =
    is_size_of (number order size) least (omega (arith, e, h)) (ap (λ n. n % 4) e ∙ even)

other_walk : (s : Section) (bytes : List ℕ) → IsOther s.order bytes
    → Walks (Blocks (b.Kind s)) bytes (Blocks (b.Kind s)) []
unfolding block_field_at
other_walk s bytes o =
    let k = o.block in
    let n : ℕ = number s.order k.size in
    let ok = sized s.order k.size 12 (length o.body) k.size_is k.even (omega arith) in
    let next : Block = unread_or_end s n (n - 12) in
    let Q : List ℕ → Type 0 = λ x. Walks (Blocks (b.Kind s)) x (Blocks (b.Kind s)) [] in
    subst Q (sym (k.is ∙ append_assoc (o.kind ++ k.size) o.body k.again))
    (followed (b.Kind s) next (b.Kind s) (o.kind ++ k.size) (o.body ++ k.again)
    (followed (b.Kind s) (b.Size s OtherKind) next o.kind k.size
    (one (b.Kind s) (b.Size s OtherKind) o.kind refl k.kind_long
    (other_kind s o.kind o.other o.apart))
    (one (b.Size s OtherKind) next k.size refl k.size_long (rw ok refl)))
    (close_walk s n (n - 12) o.body k.again (omega (arith, k.size_is)) k.again_long
    (k.again_is ∙ sym k.size_is)))

interface_walk : (s : Section) (counts : ℕ) (bytes : List ℕ) → s.interfaces < 4294967295
    → IsInterface s.order bytes counts
    → Walks (Blocks (b.Kind s)) bytes (Blocks (b.Kind (section_with s counts))) []
unfolding block_field_at
interface_walk s counts bytes has_room i =
    let k = i.block in
    let n : ℕ = number s.order k.size in
    let body : List ℕ = (i.link ++ i.snap) ++ i.options in
    let long : length body ≡ 8 + length i.options =
    omega (
      arith,
      length-append (i.link ++ i.snap) i.options,
      length-append i.link i.snap,
      i.link_long,
      i.snap_long,
    ) in
    let ok = sized s.order k.size 20 (length body) k.size_is k.even (omega (arith, long)) in
    let left : ℕ = (n - 20) / 4 in
    let fields : length i.options ≡ 4 * left = omega (arith, long, k.size_is, k.even) in
    let after : Section = section_with s counts in
    let w = options_walk s n left 1000 counts i.options i.options_are fields in
    let Q : List ℕ → Type 0 = λ x. Walks (Blocks (b.Kind s)) x (Blocks (b.Kind after)) [] in
    subst Q (sym k.is)
    (followed (b.Kind s) (b.End after n) (b.Kind after) ((i.kind ++ k.size) ++ body) k.again
    (followed (b.Kind s) (b.Link s n) (b.End after n) (i.kind ++ k.size) body
    (followed (b.Kind s) (b.Size s InterfaceKind) (b.Link s n) i.kind k.size
    (one (b.Kind s) (b.Size s InterfaceKind) i.kind refl k.kind_long
    (interface_kind s i.kind k.kind_long i.kind_is has_room))
    (one (b.Size s InterfaceKind) (b.Link s n) k.size refl k.size_long (rw ok refl)))
    (followed (b.Link s n) w.place (b.End after n) (i.link ++ i.snap) i.options
    (followed (b.Link s n) (b.Snap s n) w.place i.link i.snap
    (one (b.Link s n) (b.Snap s n) i.link refl i.link_long
    (rw (eq-eqb (short_number s.order i.link) 250 i.link_is) refl))
    (one (b.Snap s n) w.place i.snap refl i.snap_long w.stepped))
    w.walks))
    (end_walk after n k.again k.again_long (k.again_is ∙ sym k.size_is)))

captured_step : (s : Section) (size start captured count : ℕ) → captured ≡ 12 + count
    → padded (12 + count) + 32 ≤ size
    → after_captured s size start captured ≡ Ok (b.Original s size start (12 + count), None)
captured_step s size start captured count e room =
    rw e (rw (le-ltb (12 + count) 12 (omega arith), le-ltb size (padded (12 + count) + 32) room) refl)

original_step : (s : Section) (size start original count : ℕ) → original ≡ 12 + count
    → after_original s size start (12 + count) original
    ≡ Ok (b.Packet s size (size - 32 - (12 + count)) (RtacSeconds start count), None)
original_step s size start original count e =
    let taken : 12 + count - 12 ≡ count = omega arith in
    rw (eq-eqb original (12 + count) e, taken) refl

pub blocks_or : (within : Body → Block) (behind : Block) (o : Option Body)
    → Blocks (body_or within behind o) ≡ body_or (λ body. Blocks (within body)) (Blocks behind) o
blocks_or within behind (Some body) = refl
blocks_or within behind None = refl

record_over : (s : Section) (size left start count : ℕ) (packet : List ℕ) (items : List Seen)
    → IsRecord start count packet items
    → Walks (Blocks (b.Packet s size left (RtacSeconds start count))) packet
    (Blocks (unread_or_end s size left)) items
unfolding field_at block_field_at
record_over s size left start count packet items r = record {
  is = record_walk takes_bytes field_at byte_at (λ body. Blocks (b.Packet s size left body))
      (Blocks (unread_or_end s size left)) (λ body. refl)
      (λ body field. ap (λ x. Ok (x, (body_field_at body field).1))
      (blocks_or (b.Packet s size left) (unread_or_end s size left) (body_field_at body field).0))
      (λ body byte. ap (λ x. Ok (x, (body_byte_at body byte).1))
      (blocks_or (b.Packet s size left) (unread_or_end s size left) (body_byte_at body byte).0))
      start count packet items r;
}

record_long : (start count : ℕ) (packet : List ℕ) (items : List Seen)
    → IsRecord start count packet items → length packet ≡ 12 + count
record_long start count packet items r =
    ap length r.is ∙ omega (
      arith,
      length-append ((r.seconds ++ r.microseconds) ++ r.event ∷ r.others) r.payload,
      length-append (r.seconds ++ r.microseconds) (r.event ∷ r.others),
      length-append r.seconds r.microseconds,
      r.seconds_long,
      r.microseconds_long,
      r.others_long,
      r.payload_long,
    )

high_step : (s : Section) (size high low start : ℕ)
    → start ≡ (high * 4294967296 + low) * s.counts → start < 2 ^ 64
    → high * 4294967296 * s.counts < 2 ^ 64
high_step s size high low start e h =
    omega (arith, e, h, distributed (high * 4294967296) low s.counts)
  where
    distributed : (x y z : ℕ) → (x + y) * z ≡ x * z + y * z
    distributed x y z = grind arith

packet_front : (s : Section) (bytes : List ℕ) (items : List Seen) (e : IsEnhanced s bytes items)
    → Walks (Blocks (b.Interface s (number s.order e.block.size)))
    ((((e.interface ++ e.high) ++ e.low) ++ e.captured) ++ e.original)
    (Blocks (b.Packet s (number s.order e.block.size)
    (number s.order e.block.size - 32 - (12 + e.count)) (RtacSeconds e.start e.count))) []
unfolding block_field_at
packet_front s bytes items e =
    let n : ℕ = number s.order e.block.size in
    let high : ℕ = number s.order e.high in
    let packet : Block = b.Packet s n (n - 32 - (12 + e.count)) (RtacSeconds e.start e.count) in
    let fits : high * 4294967296 * s.counts < 2 ^ 64 =
    high_step s n high (number s.order e.low) e.start e.start_is e.fits in
    let same_start : (high * 4294967296 + number s.order e.low) * s.counts ≡ e.start =
    sym e.start_is in
    let room : padded (12 + e.count) + 32 ≤ n = omega (
      arith,
      e.padding,
      e.block.size_is,
      length-append (((((e.interface ++ e.high) ++ e.low) ++ e.captured) ++ e.original) ++ e.packet)
          e.rest,
      length-append ((((e.interface ++ e.high) ++ e.low) ++ e.captured) ++ e.original) e.packet,
      length-append (((e.interface ++ e.high) ++ e.low) ++ e.captured) e.original,
      length-append ((e.interface ++ e.high) ++ e.low) e.captured,
      length-append (e.interface ++ e.high) e.low,
      length-append e.interface e.high,
      e.interface_long,
      e.high_long,
      e.low_long,
      e.captured_long,
      e.original_long,
      record_long e.start e.count e.packet items e.record_is,
    ) in
    followed (b.Interface s n) (b.Original s n e.start (12 + e.count)) packet
    (((e.interface ++ e.high) ++ e.low) ++ e.captured) e.original
    (followed (b.Interface s n) (b.Captured s n e.start) (b.Original s n e.start (12 + e.count))
    ((e.interface ++ e.high) ++ e.low) e.captured
    (followed (b.Interface s n) (b.Low s n high) (b.Captured s n e.start) (e.interface ++ e.high) e.low
    (followed (b.Interface s n) (b.High s n) (b.Low s n high) e.interface e.high
    (one (b.Interface s n) (b.High s n) e.interface refl e.interface_long
    (rw (
      le-leb s.first (number s.order e.interface) e.interface_alike,
      lt-ltb (number s.order e.interface) s.interfaces e.interface_is,
    ) refl))
    (one (b.High s n) (b.Low s n high) e.high refl e.high_long
    (rw (lt-ltb (high * 4294967296 * s.counts) (2 ^ 64) fits) refl)))
    (one (b.Low s n high) (b.Captured s n e.start) e.low refl e.low_long
    (rw (same_start, lt-ltb e.start (2 ^ 64) e.fits) refl)))
    (one (b.Captured s n e.start) (b.Original s n e.start (12 + e.count)) e.captured refl
    e.captured_long
    (captured_step s n e.start (number s.order e.captured) e.count e.captured_is room)))
    (one (b.Original s n e.start (12 + e.count)) packet e.original refl e.original_long
    (original_step s n e.start (number s.order e.original) e.count e.original_is))

packet_walk : (s : Section) (bytes : List ℕ) (items : List Seen) → IsEnhanced s bytes items
    → Walks (Blocks (b.Kind s)) bytes (Blocks (b.Kind s)) items
unfolding block_field_at
packet_walk s bytes items e =
    let k = e.block in
    let n : ℕ = number s.order k.size in
    let left : ℕ = n - 32 - (12 + e.count) in
    let front : List ℕ = (((e.interface ++ e.high) ++ e.low) ++ e.captured) ++ e.original in
    let body_long : length ((front ++ e.packet) ++ e.rest) ≡ 32 + e.count + length e.rest =
    omega (
      arith,
      length-append (front ++ e.packet) e.rest,
      length-append front e.packet,
      length-append (((e.interface ++ e.high) ++ e.low) ++ e.captured) e.original,
      length-append ((e.interface ++ e.high) ++ e.low) e.captured,
      length-append (e.interface ++ e.high) e.low,
      length-append e.interface e.high,
      e.interface_long,
      e.high_long,
      e.low_long,
      e.captured_long,
      e.original_long,
      record_long e.start e.count e.packet items e.record_is,
    ) in
    let ok = sized s.order k.size 44 (length ((front ++ e.packet) ++ e.rest)) k.size_is k.even
    (omega (arith, body_long)) in
    let packet : Block = b.Packet s n left (RtacSeconds e.start e.count) in
    let next : Block = unread_or_end s n left in
    let Q : List ℕ → Type 0 = λ x. Walks (Blocks (b.Kind s)) x (Blocks (b.Kind s)) items in
    let R : List Seen → Type 0 = λ x. Walks (Blocks (b.Kind s))
    (((e.kind ++ k.size) ++ (front ++ e.packet)) ++ (e.rest ++ k.again)) (Blocks (b.Kind s)) x in
    let spelled : bytes ≡ ((e.kind ++ k.size) ++ (front ++ e.packet)) ++ (e.rest ++ k.again) =
    k.is ∙ ap (λ x. x ++ k.again) (sym (append_assoc (e.kind ++ k.size) (front ++ e.packet) e.rest))
    ∙ append_assoc ((e.kind ++ k.size) ++ (front ++ e.packet)) e.rest k.again in
    subst Q (sym spelled) (subst R (append-nil items)
    (both (Blocks (b.Kind s)) (Blocks next) (Blocks (b.Kind s))
    ((e.kind ++ k.size) ++ (front ++ e.packet)) (e.rest ++ k.again) items []
    (both (Blocks (b.Kind s)) (Blocks (b.Interface s n)) (Blocks next) (e.kind ++ k.size)
    (front ++ e.packet) [] items
    (followed (b.Kind s) (b.Size s PacketKind) (b.Interface s n) e.kind k.size
    (one (b.Kind s) (b.Size s PacketKind) e.kind refl k.kind_long
    (packet_kind s e.kind k.kind_long e.kind_is
    (omega (arith, e.interface_alike, e.interface_is)) e.numbered))
    (one (b.Size s PacketKind) (b.Interface s n) k.size refl k.size_long (rw ok refl)))
    (both (Blocks (b.Interface s n)) (Blocks packet) (Blocks next) front e.packet [] items
    (packet_front s bytes items e)
    (record_over s n left e.start e.count e.packet items e.record_is)))
    (close_walk s n left e.rest k.again (omega (arith, k.size_is, body_long)) k.again_long
    (k.again_is ∙ sym k.size_is))))

-- ---- a whole file

-- where a reader is before a block
abbrev pub before_block : Option Section → Stage
before_block None = Magic
before_block (Some s) = Blocks (b.Kind s)

section_step : (o : Option Section)
    → Walks (before_block o) section_kind (Blocks b.SectionSize) []
unfolding field_at block_field_at
section_step None = one_field Magic (Blocks b.SectionSize) section_kind None refl refl refl
section_step (Some s) =
    one_field (Blocks (b.Kind s)) (Blocks b.SectionSize) section_kind None refl refl refl

header_walk : (o : Option Section) (order : Order) (bytes : List ℕ) → IsSection order bytes
    → Walks (before_block o) bytes (Blocks (b.Kind (fresh order))) []
header_walk o order bytes h =
    let k = h.block in
    let Q : List ℕ → Type 0 = λ x. Walks (before_block o) x (Blocks (b.Kind (fresh order))) [] in
    subst Q (sym (k.is ∙ append_assoc (section_kind ++ k.size) (h.mark ++ h.rest) k.again
    ∙ append_assoc section_kind k.size ((h.mark ++ h.rest) ++ k.again)))
    (both (before_block o) (Blocks b.SectionSize) (Blocks (b.Kind (fresh order))) section_kind
    (k.size ++ ((h.mark ++ h.rest) ++ k.again)) [] [] (section_step o)
    (section_walk order k.size h.mark h.rest k.again k.size_long h.mark_is h.whole k.again_long
    k.size_is k.again_is k.even))

more_items : (from through to : Stage) (first second : List ℕ) (items : List Seen)
    → Walks from first through items → Walks through second to []
    → Walks from (first ++ second) to items
more_items from through to first second items v w =
    let Q : List Seen → Type 0 = λ x. Walks from (first ++ second) to x in
    subst Q (append-nil items) (both from through to first second items [] v w)

pub blocks_walk : (o : Option Section) (file : List ℕ) (items : List Seen)
    → AreBlocks o file items → Walks Magic file (before_block o) items
blocks_walk o file items no_block = stays Magic
blocks_walk o file items (section_block before order front bytes _ p h) =
    more_items Magic (before_block before) (Blocks (b.Kind (fresh order))) front bytes items
    (blocks_walk before front items p) (header_walk before order bytes h)
blocks_walk o file items (interface_block before counts front bytes _ p has_room i) =
    more_items Magic (Blocks (b.Kind before)) (Blocks (b.Kind (section_with before counts))) front
    bytes items (blocks_walk (Some before) front items p)
    (interface_walk before counts bytes has_room i)
blocks_walk o file items (packet_block s front bytes these others p e) =
    both Magic (Blocks (b.Kind s)) (Blocks (b.Kind s)) front bytes these others
    (blocks_walk (Some s) front these p) (packet_walk s bytes others e)
blocks_walk o file items (other_block s front bytes _ p h) =
    more_items Magic (Blocks (b.Kind s)) (Blocks (b.Kind s)) front bytes items
    (blocks_walk (Some s) front items p) (other_walk s bytes h)
