-- Lemmas on numbers in slots.
use Rattle.byteorder.specs.{Endian.big_bytes, Endian.big_number, Numbers.big_number-reads_back}
use Rattle.sequence_journal.proofs.FloorLaws.{floor_is_held, floor_beside}
use Rattle.sequence_journal.specs.Journal.{IsEitherFloor, MaySet, told_with}
use Rattle.sequence_journal.specs.{Links.has_direction, Links.HasDirection, Links.link_bytes, Loading.MayBegin}
use Rattle.sequence_journal.specs.Slots.{slot_bytes, old_slot_bytes, held_by, number_held}
use Rattle.sequence_journal.specs.Slots.{link_named, link_held, any_number_held, greater, own_floor}
use Rattle.sequence_journal.specs.Slots.{any_floor, old_floor, floor_of, floor_slot}
use Rattle.sequence_journal.specs.declared.{link.LinkId.LinkId, numbers.TheConstants.LIMIT}
use Rattle.std.proofs.Common.{◌≡◌, ◌∙◌, ℕ, ◌≤◌, ◌<◌, List, ◌++◌, map, ◌-◌, max, Bool, true, false}
use Rattle.std.proofs.Common.{nat_eq, Option, Some, None, IfSome, inl, inr, refl, ap, arith}
use Rattle.std.proofs.Common.{option_map, unwrap_or}
use Rattle.std.proofs.lemmas.Bool.{le-leb, lt-ltb, le-ltb, and_parts}
use Rattle.std.{proofs.lemmas.Slice.Eq.bytes_eq-Decides, specs.Cmp.Lexicographic.pointwise}
use Rattle.std.specs.{Prelude.nat_le, Prelude.◌&&◌, Prelude.if◌then◌else◌, Str.bytes_eq}
use Rattle.yasir_io.specs.Disks.{Slots, slot_in, other_slot, with_slot}
use Rattle.yasir_io.specs.declared.disk.Slot.{Slot, TheVariants.A, TheVariants.B}

number_first : (n : ℕ) (more : List ℕ) → n ≤ LIMIT → big_number 8 (big_bytes 8 n ++ more) ≡ n
number_first n more within = big_number-reads_back 8 n more (omega arith)

-- the first eight bytes of a number's slot are the number
pub number_of_slot : (slot : List ℕ) (n : ℕ) (link : LinkId) → n ≤ LIMIT → slot ≡ slot_bytes n link
    → big_number 8 slot ≡ n
unfolding slot_bytes
number_of_slot slot n link within is = ap (big_number 8) is
    ∙ number_first n (link_bytes link ++ map (λ b. 255 - b) (big_bytes 8 n ++ link_bytes link))
    within

pub number_of_old_slot : (slot : List ℕ) (n : ℕ) → n ≤ LIMIT → slot ≡ old_slot_bytes n
    → big_number 8 slot ≡ n
unfolding old_slot_bytes
number_of_old_slot slot n within is = ap (big_number 8) is
    ∙ number_first n (map (λ b. 255 - b) (big_bytes 8 n)) within

-- a number's slot names its link
pub link_of_slot : (slot : List ℕ) (n : ℕ) (link : LinkId) → slot ≡ slot_bytes n link
    → link_named slot ≡ link
unfolding slot_bytes
link_of_slot slot n link is = ap link_named is

-- lists that a test calls different are different
pub different : (xs ys : List ℕ) (equal : Bool) → equal ≡ false → equal ≡ pointwise nat_eq xs ys
    → xs ≡ ys → ⊥
different xs ys equal is_false test same = let yes : pointwise nat_eq xs ys ≡ true =
    (bytes_eq-Decides xs ys).1 same in cc

-- bytes that are made of a number hold it
holds_made : (made : ℕ → List ℕ) (bytes : List ℕ) (n : ℕ) → n ≤ LIMIT → big_number 8 bytes ≡ n
    → bytes ≡ made n → held_by made bytes ≡ Some n
holds_made made bytes n within is same = rw is
    (rw ((bytes_eq-Decides bytes (made n)).1 same) (rw (le-leb n LIMIT within) refl))

-- a number's slot holds it
pub held : (n : ℕ) (link : LinkId) → n ≤ LIMIT → number_held link (slot_bytes n link) ≡ Some n
unfolding number_held
held n link within = holds_made (λ n. slot_bytes n link) (slot_bytes n link) n within
    (number_of_slot (slot_bytes n link) n link within refl) refl

number_where : (found : Bool) (m n : ℕ) → (if found then Some m else None) ≡ Some n
    → (found ≡ true) × (m ≡ n)
number_where true m n is = (refl, ap (λ o. unwrap_or o m) is)
number_where false m n is = absurd cc

-- bytes that hold a number are made of it
made_of_held : (made : ℕ → List ℕ) (bytes : List ℕ) (n : ℕ) → held_by made bytes ≡ Some n
    → bytes ≡ made n
made_of_held made bytes n is =
    let m = big_number 8 bytes in
    let found = number_where (bytes_eq bytes (made m) && nat_le m LIMIT) m n is in
    let same = and_parts (bytes_eq bytes (made m)) (nat_le m LIMIT) found.0 in
    (bytes_eq-Decides bytes (made m)).0 same.0 ∙ ap made found.1

slot_of_held : (link : LinkId) (slot : List ℕ) (n : ℕ) → number_held link slot ≡ Some n
    → slot ≡ slot_bytes n link
unfolding number_held
slot_of_held link slot n is = made_of_held (λ n. slot_bytes n link) slot n is

-- what a slot holds for a link, it holds for no other
pub link_is_held : (link : LinkId) (slot : List ℕ) (n : ℕ) → HasDirection link
    → number_held link slot ≡ Some n → link_held slot ≡ Some (n, link)
unfolding link_held
link_is_held link slot n right is =
    let by_link : LinkId → Option (ℕ × LinkId) = λ l. if has_direction l
    then option_map (λ n. (n, l)) (number_held l slot) else None in
    let by_truth : Bool → Option (ℕ × LinkId) = λ b. if b
    then option_map (λ n. (n, link)) (number_held link slot) else None in
    ap by_link (link_of_slot slot n link (slot_of_held link slot n is)) ∙ ap by_truth right
    ∙ ap (option_map (λ n. (n, link))) is

-- the slot of a number for a link holds both
pub link_holds : (n : ℕ) (link : LinkId) (slot : List ℕ) → n ≤ LIMIT → HasDirection link
    → slot ≡ slot_bytes n link → link_held slot ≡ Some (n, link)
link_holds n link slot within right is =
    link_is_held link slot n right (ap (number_held link) is ∙ held n link within)

-- a slot that holds no number for any link holds none for this one
pub none_of_own : (link : LinkId) (slot : List ℕ) → HasDirection link → any_number_held slot ≡ None
    → number_held link slot ≡ None
none_of_own link slot right none =
    let P : Option ℕ → Type 0 = λ o. number_held link slot ≡ o → o ≡ None in
    elim (number_held link slot) as P [
      | None ↦ λ is. refl
      | Some n ↦ λ is. (
          let there : any_number_held slot ≡ Some n =
          ap (option_map (λ (held : ℕ × LinkId). held.0)) (link_is_held link slot n right is) in
          cc
          )
    ] refl

pub neither : (a b : Option ℕ) → greater a b ≡ None → (a ≡ None) × (b ≡ None)
neither None b is = (refl, is)
neither (Some a) None is = cc
neither (Some a) (Some b) is = cc

-- slots that hold no number for any link hold none for this one
pub no_own_floor : (link : LinkId) (slots : Slots) → HasDirection link → any_floor slots ≡ None
    → own_floor link slots ≡ None
no_own_floor link slots right none =
    let both = neither (any_number_held slots.a) (any_number_held slots.b) none in
    rw (none_of_own link slots.a right both.0, none_of_own link slots.b right both.1) refl

pub other_twice : (slot : Slot) → other_slot (other_slot slot) ≡ slot
other_twice A = refl
other_twice B = refl

-- a slot that is set to a number above that of the other slot holds the greatest number of the link
floor_after : (link : LinkId) (slot : Slot) (slots : Slots) (m n : ℕ)
    → number_held link (slot_in slots (other_slot slot)) ≡ Some m → m < n → n ≤ LIMIT
    → (own_floor link (with_slot slots slot (slot_bytes n link)) ≡ Some n)
    × (floor_slot link (with_slot slots slot (slot_bytes n link)) ≡ Some slot)
floor_after link A slots m n is above within =
    let most : max n m ≡ n = omega arith in (
      rw (held n link within, is) (ap Some most),
      rw (held n link within, is) (rw (le-ltb n m (omega arith)) refl),
    )
floor_after link B slots m n is above within =
    let most : max m n ≡ n = omega arith in (
      rw (held n link within, is) (ap Some most),
      rw (held n link within, is) (rw (lt-ltb m n above) refl),
    )

-- what holds of a value, if there is one, holds of this value
pub at_some : {A : Type 0} (P : A → Type 0) (o : Option A) (x : A) → o ≡ Some x → IfSome o P → P x
at_some P o x is holds = rw is at holds

pub if_some_weaker : {A : Type 0} (P Q : A → Type 0) (o : Option A) → ((x : A) → P x → Q x)
    → IfSome o P → IfSome o Q
if_some_weaker P Q None weaker holds = tt
if_some_weaker P Q (Some x) weaker holds = weaker x holds

-- the floor isn't below the number of the link, and a number above the floor becomes the floor
pub below_floor : (m floor : ℕ) (old : Option ℕ) → greater (Some m) old ≡ Some floor → m ≤ floor
below_floor m floor None is = let same : m ≡ floor = ap (λ o. unwrap_or o m) is in omega arith
below_floor m floor (Some o) is =
    let same : max m o ≡ floor = ap (λ o. unwrap_or o m) is in omega arith

goes_above : (m floor n : ℕ) (old : Option ℕ) → greater (Some m) old ≡ Some floor → floor < n
    → greater (Some n) old ≡ Some n
goes_above m floor n None is above = refl
goes_above m floor n (Some o) is above =
    let same : max m o ≡ floor = ap (λ o. unwrap_or o m) is in
    let most : max n o ≡ n = omega arith in
    ap Some most

old_of_set : (slot : Slot) (slots : Slots) (bytes : List ℕ)
    → old_floor (with_slot slots slot bytes) ≡ old_floor slots
old_of_set A slots bytes = refl
old_of_set B slots bytes = refl

-- A commit sets the slot that doesn't keep the floor to a number above the floor. Then that number
-- is the floor, and that slot keeps it.
pub floor_is_set : (link : LinkId) (kept slot : Slot) (told new : Option Slots) (floor n : ℕ)
    (bytes : List ℕ)
    → slot ≡ other_slot kept → bytes ≡ slot_bytes n link → new ≡ told_with told slot bytes
    → IfSome told (λ slots. floor_of link slots ≡ Some floor)
    → IfSome told (λ slots. floor_slot link slots ≡ Some kept) → floor < n → n ≤ LIMIT
    → IfSome new (λ slots. floor_of link slots ≡ Some n)
    × IfSome new (λ slots. floor_slot link slots ≡ Some slot)
floor_is_set link kept slot None new floor n bytes other number set is keeps above within =
    rw set (tt, tt)
floor_is_set link kept slot (Some slots) new floor n bytes other number set is keeps above within =
    let found = floor_is_held link slots kept floor is keeps in
    let below : found.0 ≤ floor = below_floor found.0 floor (old_floor slots) found.2 in
    let held_there : number_held link (slot_in slots (other_slot slot)) ≡ Some found.0 =
    ap (λ s. number_held link (slot_in slots s)) (ap other_slot other ∙ other_twice kept)
    ∙ found.1 in
    let after = with_slot slots slot (slot_bytes n link) in
    let own = floor_after link slot slots found.0 n held_there (omega arith) within in
    let is_floor : floor_of link after ≡ Some n = floor_beside link after n own.0
    ∙ ap (λ o. greater (Some n) o) (old_of_set slot slots (slot_bytes n link))
    ∙ goes_above found.0 floor n (old_floor slots) found.2 above in
    rw (set, number) (is_floor, own.1)

-- after a fault the floor is what it was, or the number of the commit
pub floor_may_be_set : (link : LinkId) (kept slot : Slot) (told new : Option Slots) (floor n : ℕ)
    (bytes : List ℕ)
    → slot ≡ other_slot kept → bytes ≡ slot_bytes n link → MaySet told slot bytes new
    → IfSome told (λ slots. floor_of link slots ≡ Some floor)
    → IfSome told (λ slots. floor_slot link slots ≡ Some kept) → floor < n → n ≤ LIMIT
    → IfSome new (IsEitherFloor link floor n)
floor_may_be_set link kept slot told new floor n bytes other number (inl same) is keeps above
    within =
    rw same (if_some_weaker _ _ told (λ slots floor_is. inl floor_is) is)
floor_may_be_set link kept slot told new floor n bytes other number (inr set) is keeps above
    within =
    if_some_weaker _ _ new (λ slots floor_is. inr floor_is)
    (floor_is_set link kept slot told new floor n bytes other number set is keeps above within).0

-- If a journal may begin at n, its floor is n after slot A is set to n, and slot A keeps it.
pub floor_begins : (link : LinkId) (n : ℕ) (told new : Option Slots) (bytes : List ℕ) → n ≤ LIMIT
    → bytes ≡ slot_bytes n link → new ≡ told_with told A bytes → IfSome told (MayBegin link n)
    → IfSome new (λ slots. floor_of link slots ≡ Some n)
    × IfSome new (λ slots. floor_slot link slots ≡ Some A)
floor_begins link n None new bytes within number set may = rw set (tt, tt)
floor_begins link n (Some slots) new bytes within number set may =
    let after : Slots = with_slot slots A (slot_bytes n link) in
    let holds : number_held link (slot_bytes n link) ≡ Some n = held n link within in
    let other : number_held link slots.b ≡ None =
    (neither (number_held link slots.a) (number_held link slots.b) may.none).1 in
    let own : own_floor link after ≡ Some n = rw (holds, other) refl in
    let is_floor : floor_of link after ≡ Some n = floor_beside link after n own ∙ may.greatest in
    rw (set, number) (is_floor, rw (holds, other) refl)
