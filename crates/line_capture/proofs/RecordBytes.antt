-- The bytes of a record, tick by tick.
use Rattle.capture_pcap.specs.Writing.{packet_front, written_packet}
use Rattle.capture_text.specs.Writing.{time_front, written_line}
use Rattle.hex.specs.Hex.{encode_with, encode_lower, lower_digits}
use Rattle.line_capture.specs.RecordWalk.{text_of_record, WalkAdds, AddsAt}
use Rattle.line_capture.specs.Records.{leading, most_further, record_text}
use Rattle.line_capture.specs.declared.records.RecordForm.{RecordForm}
use Rattle.line_capture.specs.declared.records.RecordForm.TheVariants.{Pcap, Text}
use Rattle.line_capture.specs.declared.records.RecordTexts.{RecordTexts}
use Rattle.line_stamps.specs.{Giving.tick_start, Parts.character, declared.capture.Way.Way}
use Rattle.{line_stamps.specs.declared.rate.Rate.Rate, std.proofs.Common.◌≡◌}
use Rattle.std.proofs.Common.{◌∙◌, ℕ, suc, ◌+◌, ◌-◌, ◌*◌, ◌/◌, ◌<◌, ◌≤◌, ◌^◌, List, [], ◌∷◌, ◌++◌}
use Rattle.std.proofs.Common.{◌%◌, get_or, slice_index, min, ⊎_elim, Result, Ok, Err, OnOk, refl}
use Rattle.std.proofs.Common.{sym, ap, subst, arith, length, take, drop, append-nil, append_assoc}
use Rattle.std.proofs.Math.{ListN.drop_of_length-le, Nat.mul-le-mul_right, Nat.div-le_self}
use Rattle.std.proofs.{Math.Seq.drop-cons, lemmas.Bool.cases_lt, lemmas.List.take_more}
use Rattle.{tick_drive.specs.Input.max_ticks, yasir_ticks.proofs.SilenceLaws.bytes_in-append}
use Rattle.yasir_ticks.specs.{Characters.line_feed, Ticks.bytes_in}
use Rattle.yasir_ticks.specs.declared.tick.Tick.{Tick, TheVariants.Silent, TheVariants.Byte}

-- ---- what is added

pub adds_none : (texts : RecordTexts) → WalkAdds texts texts []
adds_none texts = record { form = refl; rate = refl; text = sym (append-nil texts.text.items) }

pub adds_then : (x y z : RecordTexts) (p q : List ℕ) → WalkAdds x y p → WalkAdds y z q → WalkAdds x z (p ++ q)
adds_then x y z p q one two = record {
  form = two.form ∙ one.form;
  rate = two.rate ∙ one.rate;
  text = two.text ∙ ap (λ l. l ++ q) one.text ∙ append_assoc x.text.items p q;
}

pub adds_same : (x y : RecordTexts) (p q : List ℕ) → p ≡ q → WalkAdds x y p → WalkAdds x y q
adds_same x y p q e adds = subst (WalkAdds x y) e adds

-- ---- the data of a record

encoded-append : (d x y : List ℕ) → encode_with d (x ++ y) ≡ encode_with d x ++ encode_with d y
unfolding encode_with
encoded-append d [] y = refl
encoded-append d (b ∷ x) y =
    ap (λ l. slice_index d (b / 16) ∷ slice_index d (b % 16) ∷ l) (encoded-append d x y)

encoded-none : (d : List ℕ) → encode_with d [] ≡ []
unfolding encode_with
encoded-none d = refl

data-append : (form : RecordForm) (x y : List ℕ)
    → text_of_record form (x ++ y) ≡ text_of_record form x ++ text_of_record form y
data-append Pcap x y = refl
data-append Text x y = encoded-append lower_digits x y

data-none : (form : RecordForm) → text_of_record form [] ≡ []
data-none Pcap = refl
data-none Text = encoded-none lower_digits

pub no_data : (texts : RecordTexts) (form : RecordForm) → WalkAdds texts texts (text_of_record form [])
no_data texts form = adds_same texts texts [] _ (sym (data-none form)) (adds_none texts)

module _ (start old new : RecordTexts) (ticks : List Tick) (i : ℕ) (d : Tick)
    (within : i < length ticks)
    (had : WalkAdds start old (text_of_record start.form (bytes_in (take i ticks)))) where
  more-bytes : (t : Tick) → t ≡ get_or ticks i d
      → bytes_in (take (i + 1) ticks) ≡ bytes_in (take i ticks) ++ bytes_in (t ∷ [])
  more-bytes t is = ap bytes_in (take_more ticks i d within)
      ∙ bytes_in-append (take i ticks) (get_or ticks i d ∷ [])
      ∙ ap (λ u. bytes_in (take i ticks) ++ bytes_in (u ∷ [])) (sym is)

  pub byte_added : (b : ℕ) (put : RecordTexts) → new ≡ put → Byte b ≡ get_or ticks i d
      → WalkAdds old put (text_of_record old.form (b ∷ []))
      → WalkAdds start new (text_of_record start.form (bytes_in (take (i + 1) ticks)))
  byte_added b put same is adds_put =
      let form = had.form in
      let adds : WalkAdds old new (text_of_record old.form (b ∷ [])) =
      subst (λ x. WalkAdds old x (text_of_record old.form (b ∷ []))) (sym same) adds_put in
      let adds' : WalkAdds old new (text_of_record start.form (b ∷ [])) =
      subst (λ f. WalkAdds old new (text_of_record f (b ∷ []))) form adds in
      adds_same start new _ _
      (sym (ap (text_of_record start.form) (more-bytes (Byte b) is)
      ∙ data-append start.form (bytes_in (take i ticks)) (b ∷ [])))
      (adds_then start old new _ _ had adds')

  pub silence_passed : Silent ≡ get_or ticks i d → new ≡ old
      → WalkAdds start new (text_of_record start.form (bytes_in (take (i + 1) ticks)))
  silence_passed is same =
      adds_same start new _ _
      (sym (ap (text_of_record start.form) (more-bytes Silent is ∙ append-nil _)))
      (subst (λ x. WalkAdds start x (text_of_record start.form (bytes_in (take i ticks)))) (sym same) had)

-- ---- how many bytes a record has

-- The first `count` ticks of a line are bytes, and `leading` goes on with what follows them.
pub record Leads (line : List Tick) (most count : ℕ) : Type 0 where
  pub bytes : leading line most
      ≡ bytes_in (take count line) ++ leading (drop count line) (most - count)
  pub long : length (bytes_in (take count line)) ≡ count

pub leads_none : (line : List Tick) (most : ℕ) → Leads line most 0
leads_none line most = record { bytes = ap (leading line) (omega arith); long = refl }

pub leads_more : (line : List Tick) (most count : ℕ) (d : Tick) (b : ℕ) → count < length line
    → count < most → Byte b ≡ get_or line count d → Leads line most count
    → Leads line most (count + 1)
leads_more line most count d b within room is had =
    let taken : bytes_in (take (count + 1) line) ≡ bytes_in (take count line) ++ b ∷ [] =
    ap bytes_in (take_more line count d within)
    ∙ bytes_in-append (take count line) (get_or line count d ∷ [])
    ∙ ap (λ u. bytes_in (take count line) ++ bytes_in (u ∷ [])) (sym is) in
    let left : drop count line ≡ Byte b ∷ drop (suc count) line =
    drop-cons line count d within ∙ ap (λ u. u ∷ drop (suc count) line) (sym is) in
    let more : most - count ≡ suc (most - suc count) = omega arith in
    let next : leading (drop count line) (most - count)
    ≡ b ∷ leading (drop (suc count) line) (most - suc count) =
    ap (λ l. leading l (most - count)) left ∙ ap (leading (Byte b ∷ drop (suc count) line)) more in
    record {
      bytes = had.bytes ∙ ap (λ l. bytes_in (take count line) ++ l) next
          ∙ sym (append_assoc (bytes_in (take count line)) (b ∷ []) _)
          ∙ ap (λ l. l ++ leading (drop (suc count) line) (most - suc count)) (sym taken)
          ∙ ap (λ (k : ℕ). bytes_in (take (count + 1) line) ++ leading (drop k line) (most - k))
          (let e : suc count ≡ count + 1 = omega arith in e);
      long = ap length taken
          ∙ length_more (bytes_in (take count line)) b ∙ ap (λ n. n + 1) had.long;
    }
  where
    length_more : (x : List ℕ) (b : ℕ) → length (x ++ b ∷ []) ≡ length x + 1
    length_more [] b = refl
    length_more (y ∷ x) b = let h = length_more x b in omega arith

-- If `leading` ends after `count` ticks, their bytes are all that it has.
leads_end : (line : List Tick) (most count : ℕ) → leading (drop count line) (most - count) ≡ []
    → Leads line most count → bytes_in (take count line) ≡ leading line most
leads_end line most count none had =
    sym (had.bytes ∙ ap (λ l. bytes_in (take count line) ++ l) none
    ∙ append-nil (bytes_in (take count line)))

pub no_room : (line : List Tick) → leading line 0 ≡ []
no_room [] = refl
no_room (Silent ∷ line) = refl
no_room (Byte b ∷ line) = refl

pub leads_to_end : (line : List Tick) (most count : ℕ) → length line ≤ count
    → Leads line most count → bytes_in (take count line) ≡ leading line most
leads_to_end line most count behind had =
    leads_end line most count
    (ap (λ l. leading l (most - count)) (drop_of_length-le line behind)) had

pub leads_full : (line : List Tick) (most count : ℕ) → most ≤ count
    → Leads line most count → bytes_in (take count line) ≡ leading line most
leads_full line most count full had =
    let none : most - count ≡ 0 = omega arith in
    leads_end line most count
    (ap (leading (drop count line)) none ∙ no_room (drop count line)) had

pub leads_done : (line : List Tick) (most count : ℕ) → min (length line) most ≤ count
    → Leads line most count → bytes_in (take count line) ≡ leading line most
leads_done line most count over had =
    ⊎_elim
    (λ (h : count < length line). leads_full line most count (omega arith) had)
    (λ (h : length line ≤ count). leads_to_end line most count h had)
    (cases_lt count (length line))

pub leads_to_silence : (line : List Tick) (most count : ℕ) (d : Tick) → count < length line
    → Silent ≡ get_or line count d
    → Leads line most count → bytes_in (take count line) ≡ leading line most
leads_to_silence line most count d within is had =
    leads_end line most count
    (ap (λ l. leading l (most - count)) (drop-cons line count d within
    ∙ ap (λ u. u ∷ drop (suc count) line) (sym is))) had

-- ---- the record that begins in a tick

module _ (old : RecordTexts) (way : Way) (tick room : ℕ) where
  adds_at : (x y : List Tick) (new : RecordTexts) (after : ℕ) → x ≡ y
      → AddsAt old new way tick x room after → AddsAt old new way tick y room after
  adds_at x y new after is adds = subst (λ l. AddsAt old new way tick l room after) is adds

  pub at_end : (line : List Tick) → length line ≤ tick → AddsAt old old way tick (drop tick line) room 0
  at_end line behind =
      adds_at [] (drop tick line) old 0 (sym (drop_of_length-le line behind))
      (record { adds = adds_none old; room_is = refl })

  first-is : (line : List Tick) (d t : Tick) → tick < length line → t ≡ get_or line tick d
      → t ∷ drop (suc tick) line ≡ drop tick line
  first-is line d t within is =
      sym (drop-cons line tick d within ∙ ap (λ u. u ∷ drop (suc tick) line) (sym is))

  pub at_silence : (line : List Tick) (d : Tick) → tick < length line → Silent ≡ get_or line tick d
      → AddsAt old old way tick (drop tick line) room 0
  at_silence line d within is =
      adds_at (Silent ∷ drop (suc tick) line) (drop tick line) old 0
      (first-is line d Silent within is) (record { adds = adds_none old; room_is = refl })

pub at_further : (old : RecordTexts) (way : Way) (tick room after : ℕ) (line : List Tick) (d : Tick)
    (b : ℕ) → tick < length line → Byte b ≡ get_or line tick d → 0 < room → after + 1 ≡ room
    → AddsAt old old way tick (drop tick line) room after
at_further old way tick room after line d b within is some room_is =
    subst (λ n. AddsAt old old way tick (drop tick line) n after) (omega arith)
    (adds_at old way tick (suc after) (Byte b ∷ drop (suc tick) line) (drop tick line) old after
    (first-is old way tick (suc after) line d (Byte b) within is)
    (record { adds = adds_none old; room_is = refl }))

pub at_first : (old new : RecordTexts) (way : Way) (tick room : ℕ) (line : List Tick) (d : Tick)
    (b : ℕ) (bytes : List ℕ) → tick < length line → Byte b ≡ get_or line tick d → room ≡ 0
    → bytes ≡ leading (drop tick line) (suc most_further)
    → WalkAdds old new (record_text old.form old.rate
    (record { way = way; tick = tick; bytes = bytes }))
    → AddsAt old new way tick (drop tick line) room most_further
at_first old new way tick room line d b bytes within is none bytes_are adds =
    let left : Byte b ∷ drop (suc tick) line ≡ drop tick line =
    first-is old way tick room line d (Byte b) within is in
    let all : bytes ≡ b ∷ leading (drop (suc tick) line) most_further =
    bytes_are ∙ ap (λ l. leading l (suc most_further)) (sym left) in
    subst (λ n. AddsAt old new way tick (drop tick line) n most_further) (sym none)
    (adds_at old way tick 0 (Byte b ∷ drop (suc tick) line) (drop tick line) new most_further left
    (record {
      adds = adds_same old new _ _ (sym (append-nil _))
          (subst (λ (l : List ℕ). WalkAdds old new (record_text old.form old.rate
          (record { way = way; tick = tick; bytes = l }))) all adds);
      room_is = refl;
    }))

-- ---- a record

-- A record of the form Pcap is a packet, and one of the form Text is a line.
module _ (old new : RecordTexts) (way : Way) (tick start : ℕ) (bytes : List ℕ)
    (start_is : start ≡ tick_start old.rate 1 tick) where
  abbrev AddsRecord : Type 0
  AddsRecord = WalkAdds old new (record_text old.form old.rate
      (record { way = way; tick = tick; bytes = bytes }))

  pub packet_added : (mid : RecordTexts) (front : List ℕ) (count : ℕ)
      {E : Type 0} (result : Result (Unit {0}) E) → Pcap ≡ old.form → count ≡ length bytes
      → front ≡ packet_front way start count → WalkAdds old mid front
      → OnOk result (WalkAdds mid new (text_of_record mid.form bytes)) → OnOk result AddsRecord
  packet_added mid front count (Err none) form few front_is one two = tt
  packet_added mid front count (Ok done) form few front_is one two =
      let same : Pcap ≡ mid.form = form ∙ sym one.form in
      let bytes_put : WalkAdds mid new bytes = subst (λ f. WalkAdds mid new (text_of_record f bytes)) (sym same) two in
      let all : front ++ bytes ≡ written_packet way (tick_start old.rate 1 tick) bytes =
      ap (λ l. l ++ bytes) (front_is ∙ ap (λ n. packet_front way n count) start_is
      ∙ ap (packet_front way (tick_start old.rate 1 tick)) few) in
      subst (λ f. WalkAdds old new (record_text f old.rate
      (record { way = way; tick = tick; bytes = bytes }))) form
      (adds_same old new _ _ all (adds_then old mid new front bytes one bytes_put))

  pub line_added : (m1 m2 : RecordTexts) (front last : List ℕ)
      {E : Type 0} (result : Result (Unit {0}) E) → Text ≡ old.form → front ≡ time_front start
      → last ≡ line_feed ∷ [] → WalkAdds old m1 front → WalkAdds m1 m2 (text_of_record m1.form bytes)
      → OnOk result (WalkAdds m2 new last) → OnOk result AddsRecord
  line_added m1 m2 front last (Err none) form front_is last_is one two three = tt
  line_added m1 m2 front last (Ok done) form front_is last_is one two three =
      let same : Text ≡ m1.form = form ∙ sym one.form in
      let digits_put : WalkAdds m1 m2 (encode_lower bytes) =
      subst (λ f. WalkAdds m1 m2 (text_of_record f bytes)) (sym same) two in
      let all : (front ++ encode_lower bytes) ++ last
      ≡ written_line (tick_start old.rate 1 tick) bytes =
      ap (λ l. (l ++ encode_lower bytes) ++ last) (front_is ∙ ap time_front start_is)
      ∙ ap (λ l. (time_front (tick_start old.rate 1 tick) ++ encode_lower bytes) ++ l) last_is in
      subst (λ f. WalkAdds old new (record_text f old.rate
      (record { way = way; tick = tick; bytes = bytes }))) form
      (adds_same old new _ _ all
      (adds_then old m2 new _ last (adds_then old m1 m2 front (encode_lower bytes) one digits_put) three))

-- ---- its start

-- The start of each tick of a line that isn't too long fits into the time of a packet.
pub start_fits : (rate : Rate) (tick : ℕ) → tick < max_ticks
    → tick_start rate 1 tick < 2 ^ 32 * 1000000000
start_fits rate tick early =
    let most : rate.bits ≤ 11 = rate.most_bits in
    let fast : rate.baud ≤ 115200 = rate.fastest in
    let long : tick * character rate ≤ 16777216 * character rate =
    mul-le-mul_right (character rate) (omega arith) in
    let h = div-le_self (2 * (tick * character rate) + rate.baud * 1) (2 * (rate.baud * 1)) in
    omega arith
