-- The records of two lines that a walk over their ticks finds are those of the definition.
use Rattle.line_capture.specs.Captures.{is_way}
use Rattle.line_capture.specs.RecordWalk.{walk_begins, room_behind, rest_of, records_walked, AddsAt}
use Rattle.line_capture.specs.Records.{LineRecord, records_from, of_way, way_place, InOrder}
use Rattle.line_capture.specs.Records.{AreRecords, records_text, record_text, file_front}
use Rattle.line_capture.specs.Records.{IsRecorded}
use Rattle.line_capture.specs.declared.records.{RecordForm.RecordForm, RecordTexts.RecordTexts}
use Rattle.line_stamps.specs.declared.capture.Way.{Way, TheVariants.A, TheVariants.B}
use Rattle.line_stamps.specs.declared.rate.Rate.{Rate}
use Rattle.std.proofs.Common.{◌≡◌, ◌∙◌, ℕ, zero, suc, ◌+◌, ◌-◌, ◌*◌, ◌<◌, ◌≤◌, List, [], ◌∷◌, ◌++◌}
use Rattle.std.proofs.Common.{refl, sym, ap, subst, arith, length, drop, append-nil, append_assoc}
use Rattle.std.proofs.lemmas.{Grind.flat_map-append, List.Elements.filter-append}
use Rattle.yasir_ticks.specs.declared.tick.Tick.{Tick, TheVariants.Silent, TheVariants.Byte}

-- ---- the ticks of a list

rest-of-drop : (n : ℕ) (l : List Tick) → rest_of (drop n l) ≡ drop (suc n) l
rest-of-drop zero [] = refl
rest-of-drop zero (t ∷ l) = refl
rest-of-drop (suc n) [] = refl
rest-of-drop (suc n) (t ∷ l) = rest-of-drop n l

rest-short : (n : ℕ) (l : List Tick) → length l ≤ suc n → length (rest_of l) ≤ n
rest-short n [] few = omega arith
rest-short n (t ∷ l) few = omega arith

-- ---- the records of a way

first-begins : (w : Way) (tick : ℕ) (l : List Tick) (room : ℕ)
    → records_from w tick l room
    ≡ walk_begins w tick l room ++ records_from w (suc tick) (rest_of l) (room_behind l room)
first-begins w tick [] room = refl
first-begins w tick (Silent ∷ l) room = refl
first-begins w tick (Byte b ∷ l) zero = refl
first-begins w tick (Byte b ∷ l) (suc room) = refl

own-a : (tick : ℕ) (l : List Tick) (room : ℕ) → of_way A (walk_begins A tick l room) ≡ walk_begins A tick l room
own-a tick [] room = refl
own-a tick (Silent ∷ l) room = refl
own-a tick (Byte b ∷ l) zero = refl
own-a tick (Byte b ∷ l) (suc room) = refl

own-b : (tick : ℕ) (l : List Tick) (room : ℕ) → of_way B (walk_begins B tick l room) ≡ walk_begins B tick l room
own-b tick [] room = refl
own-b tick (Silent ∷ l) room = refl
own-b tick (Byte b ∷ l) zero = refl
own-b tick (Byte b ∷ l) (suc room) = refl

other-a : (tick : ℕ) (l : List Tick) (room : ℕ) → of_way A (walk_begins B tick l room) ≡ []
other-a tick [] room = refl
other-a tick (Silent ∷ l) room = refl
other-a tick (Byte b ∷ l) zero = refl
other-a tick (Byte b ∷ l) (suc room) = refl

other-b : (tick : ℕ) (l : List Tick) (room : ℕ) → of_way B (walk_begins A tick l room) ≡ []
other-b tick [] room = refl
other-b tick (Silent ∷ l) room = refl
other-b tick (Byte b ∷ l) zero = refl
other-b tick (Byte b ∷ l) (suc room) = refl

way-parts : (w : Way) (x y z : List LineRecord)
    → of_way w (x ++ (y ++ z)) ≡ of_way w x ++ (of_way w y ++ of_way w z)
way-parts w x y z =
    filter-append (λ one. is_way w one.way) x (y ++ z)
    ∙ ap (λ l. of_way w x ++ l) (filter-append (λ one. is_way w one.way) y z)

none-left : (w : Way) (tick : ℕ) (l : List Tick) (room : ℕ) → length l ≤ 0
    → [] ≡ records_from w tick l room
none-left w tick [] room none = refl
none-left w tick (t ∷ l) room none = absurd (omega arith)

walked-a : (n tick : ℕ) (a b : List Tick) (ra rb : ℕ) → length a ≤ n
    → of_way A (records_walked n tick a b ra rb) ≡ records_from A tick a ra
walked-a zero tick a b ra rb few = none-left A tick a ra few
walked-a (suc n) tick a b ra rb few =
    let more = records_walked n (suc tick) (rest_of a) (rest_of b) (room_behind a ra) (room_behind b rb) in
    let later = walked-a n (suc tick) (rest_of a) (rest_of b) (room_behind a ra) (room_behind b rb)
    (rest-short n a few) in
    way-parts A (walk_begins A tick a ra) (walk_begins B tick b rb) more
    ∙ ap (λ l. l ++ (of_way A (walk_begins B tick b rb) ++ of_way A more)) (own-a tick a ra)
    ∙ ap (λ l. walk_begins A tick a ra ++ (l ++ of_way A more)) (other-a tick b rb)
    ∙ ap (λ l. walk_begins A tick a ra ++ l) later
    ∙ sym (first-begins A tick a ra)

walked-b : (n tick : ℕ) (a b : List Tick) (ra rb : ℕ) → length b ≤ n
    → of_way B (records_walked n tick a b ra rb) ≡ records_from B tick b rb
walked-b zero tick a b ra rb few = none-left B tick b rb few
walked-b (suc n) tick a b ra rb few =
    let more = records_walked n (suc tick) (rest_of a) (rest_of b) (room_behind a ra) (room_behind b rb) in
    let later = walked-b n (suc tick) (rest_of a) (rest_of b) (room_behind a ra) (room_behind b rb)
    (rest-short n b few) in
    way-parts B (walk_begins A tick a ra) (walk_begins B tick b rb) more
    ∙ ap (λ l. l ++ (of_way B (walk_begins B tick b rb) ++ of_way B more)) (other-b tick a ra)
    ∙ ap (λ l. l ++ of_way B more) (own-b tick b rb)
    ∙ ap (λ l. walk_begins B tick b rb ++ l) later
    ∙ sym (first-begins B tick b rb)

-- ---- their order

earlier : (from until : ℕ) (records : List LineRecord) → from ≤ until → InOrder until records
    → InOrder from records
earlier from until [] le order = tt
earlier from until (one ∷ more) le (at, order) = (omega arith, order)

order-begun : (w : Way) (from tick : ℕ) (l : List Tick) (room : ℕ) (more : List LineRecord)
    → from ≤ 2 * tick + way_place w → InOrder (suc (2 * tick + way_place w)) more
    → InOrder from (walk_begins w tick l room ++ more)
order-begun w from tick [] room more le order = earlier from _ more (omega arith) order
order-begun w from tick (Silent ∷ l) room more le order = earlier from _ more (omega arith) order
order-begun w from tick (Byte b ∷ l) zero more le order = (le, order)
order-begun w from tick (Byte b ∷ l) (suc room) more le order =
    earlier from _ more (omega arith) order

walked-order : (n tick : ℕ) (a b : List Tick) (ra rb : ℕ)
    → InOrder (2 * tick) (records_walked n tick a b ra rb)
walked-order zero tick a b ra rb = tt
walked-order (suc n) tick a b ra rb =
    let more = records_walked n (suc tick) (rest_of a) (rest_of b) (room_behind a ra) (room_behind b rb) in
    let later : InOrder (2 * suc tick) more =
    walked-order n (suc tick) (rest_of a) (rest_of b) (room_behind a ra) (room_behind b rb) in
    order-begun A (2 * tick) tick a ra (walk_begins B tick b rb ++ more) (omega arith)
    (order-begun B (suc (2 * tick + 0)) tick b rb more (omega arith)
    (earlier _ (2 * suc tick) more (omega arith) later))

pub walked-records : (n : ℕ) (a b : List Tick) → length a ≤ n → length b ≤ n
    → AreRecords a b (records_walked n 0 a b 0 0)
walked-records n a b few_a few_b = record {
  a_are = walked-a n 0 a b 0 0 few_a;
  b_are = walked-b n 0 a b 0 0 few_b;
  in_order = walked-order n 0 a b 0 0;
}

-- ---- their text

module _ (form : RecordForm) (rate : Rate) where
  texts-append : (x y : List LineRecord)
      → records_text form rate (x ++ y) ≡ records_text form rate x ++ records_text form rate y
  texts-append x y = flat_map-append (record_text form rate) x y

  -- the texts of the records that begin in one tick of the walk, and then those of the others
  walked-text : (n tick : ℕ) (a b : List Tick) (ra rb : ℕ)
      → records_text form rate (records_walked (suc n) tick a b ra rb)
      ≡ records_text form rate (walk_begins A tick a ra) ++ (records_text form rate (walk_begins B tick b rb)
      ++ records_text form rate (records_walked n (suc tick) (rest_of a) (rest_of b) (room_behind a ra)
      (room_behind b rb)))
  walked-text n tick a b ra rb =
      texts-append (walk_begins A tick a ra) _
      ∙ ap (λ l. records_text form rate (walk_begins A tick a ra) ++ l)
      (texts-append (walk_begins B tick b rb) _)

  pub next-tick : (most tick : ℕ) (a b : List Tick) (ra rb ra' rb' : ℕ) (t0 t1 t2 all : List ℕ)
      → tick < most
      → t1 ≡ t0 ++ records_text form rate (walk_begins A tick (drop tick a) ra)
      → t2 ≡ t1 ++ records_text form rate (walk_begins B tick (drop tick b) rb)
      → ra' ≡ room_behind (drop tick a) ra → rb' ≡ room_behind (drop tick b) rb
      → t0 ++ records_text form rate (records_walked (most - tick) tick (drop tick a) (drop tick b) ra rb)
      ≡ all
      → t2 ++ records_text form rate (records_walked (most - suc tick) (suc tick) (drop (suc tick) a)
      (drop (suc tick) b) ra' rb') ≡ all
  next-tick most tick a b ra rb ra' rb' t0 t1 t2 all within one two room_a room_b had =
      let left : most - tick ≡ suc (most - suc tick) = omega arith in
      let x : List ℕ = records_text form rate (walk_begins A tick (drop tick a) ra) in
      let y : List ℕ = records_text form rate (walk_begins B tick (drop tick b) rb) in
      let z : List ℕ = records_text form rate (records_walked (most - suc tick) (suc tick) (drop (suc tick) a)
      (drop (suc tick) b) ra' rb') in
      let rest : records_text form rate (records_walked (most - suc tick) (suc tick) (rest_of (drop tick a))
      (rest_of (drop tick b)) (room_behind (drop tick a) ra) (room_behind (drop tick b) rb)) ≡ z =
      rw (rest-of-drop tick a, rest-of-drop tick b, ← room_a, ← room_b) refl in
      let parts : records_text form rate (records_walked (most - tick) tick (drop tick a) (drop tick b) ra rb)
      ≡ x ++ (y ++ z) =
      ap (λ n. records_text form rate (records_walked n tick (drop tick a) (drop tick b) ra rb)) left
      ∙ walked-text (most - suc tick) tick (drop tick a) (drop tick b) ra rb
      ∙ ap (λ l. x ++ (y ++ l)) rest in
      ap (λ l. l ++ z) (two ∙ ap (λ l. l ++ y) one)
      ∙ append_assoc (t0 ++ x) y z ∙ append_assoc t0 x (y ++ z)
      ∙ ap (λ l. t0 ++ l) (sym parts) ∙ had

  pub last-tick : (most tick : ℕ) (a b : List Tick) (ra rb : ℕ) (text all : List ℕ) → most ≤ tick
      → text ++ records_text form rate (records_walked (most - tick) tick (drop tick a) (drop tick b) ra rb)
      ≡ all → text ≡ all
  last-tick most tick a b ra rb text all behind had =
      let none : most - tick ≡ 0 = omega arith in
      sym (append-nil text)
      ∙ sym (ap (λ n. text ++ records_text form rate (records_walked n tick (drop tick a) (drop tick b) ra rb))
      none) ∙ had

  pub is_recorded : (most : ℕ) (a b : List Tick) (text : List ℕ) → length a ≤ most
      → length b ≤ most
      → text ≡ file_front form ++ records_text form rate (records_walked most 0 a b 0 0)
      → IsRecorded form rate a b text
  is_recorded most a b text few_a few_b is = record {
    records = records_walked most 0 a b 0 0;
    are = walked-records most a b few_a few_b;
    text_is = is;
  }

-- If the calls for one tick add its records, what is still to be added is the text of the ticks
-- after it.
pub next_texts : (form : RecordForm) (rate : Rate) (most tick : ℕ) (a b : List Tick)
    (ra rb ra' rb' : ℕ) (t0 t1 t2 : RecordTexts) (all : List ℕ) → tick < most → t0.form ≡ form
    → t0.rate ≡ rate → AddsAt t0 t1 A tick (drop tick a) ra ra'
    → AddsAt t1 t2 B tick (drop tick b) rb rb'
    → t0.text.items ++ records_text form rate (records_walked (most - tick) tick (drop tick a) (drop tick b)
    ra rb) ≡ all
    → (t2.form ≡ form) × (t2.rate ≡ rate)
    × (t2.text.items ++ records_text form rate (records_walked (most - (tick + 1)) (tick + 1)
    (drop (tick + 1) a) (drop (tick + 1) b) ra' rb') ≡ all)
next_texts form rate most tick a b ra rb ra' rb' t0 t1 t2 all within form_is rate_is one two had =
    let form1 : t1.form ≡ form = one.adds.form ∙ form_is in
    let rate1 : t1.rate ≡ rate = one.adds.rate ∙ rate_is in
    let text1 : t1.text.items ≡ t0.text.items
    ++ records_text form rate (walk_begins A tick (drop tick a) ra) =
    one.adds.text ∙ ap (λ f. t0.text.items ++ records_text f t0.rate (walk_begins A tick (drop tick a) ra))
    form_is ∙ ap (λ r. t0.text.items ++ records_text form r (walk_begins A tick (drop tick a) ra)) rate_is
    in
    let text2 : t2.text.items ≡ t1.text.items
    ++ records_text form rate (walk_begins B tick (drop tick b) rb) =
    two.adds.text ∙ ap (λ f. t1.text.items ++ records_text f t1.rate (walk_begins B tick (drop tick b) rb))
    form1 ∙ ap (λ r. t1.text.items ++ records_text form r (walk_begins B tick (drop tick b) rb)) rate1 in
    let next : t2.text.items ++ records_text form rate (records_walked (most - suc tick) (suc tick)
    (drop (suc tick) a) (drop (suc tick) b) ra' rb') ≡ all =
    next-tick form rate most tick a b ra rb ra' rb' t0.text.items t1.text.items t2.text.items all
    within text1 text2 one.room_is two.room_is had in
    let e : suc tick ≡ tick + 1 = omega arith in (
      two.adds.form ∙ form1,
      two.adds.rate ∙ rate1,
      subst (λ (k : ℕ). t2.text.items ++ records_text form rate (records_walked (most - k) k (drop k a)
          (drop k b) ra' rb') ≡ all) e next,
    )
