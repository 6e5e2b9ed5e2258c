-- Lemmas on a slot that is written below the floor, or that brings the floor down.
use Rattle.sequence_journal.proofs.FloorLaws.{own_from, floor_beside, old_of_but}
use Rattle.sequence_journal.proofs.SlotLemmas.{held, below_floor, if_some_weaker, at_some}
use Rattle.sequence_journal.proofs.SlotLemmas.{other_twice}
use Rattle.sequence_journal.specs.Ahead.{OldWithin}
use Rattle.sequence_journal.specs.Journal.{MaySet, told_with, IsEitherFloor, HasFloorAtLeast}
use Rattle.sequence_journal.specs.Journal.{AreSameBut, IsBut, IsCrashSafe, journal_link}
use Rattle.sequence_journal.specs.Journal.{journal_floor, kept_slot}
use Rattle.sequence_journal.specs.Slots.{slot_bytes, number_held, greater, own_floor}
use Rattle.sequence_journal.specs.Slots.{old_floor, floor_of, floor_slot}
use Rattle.sequence_journal.specs.declared.{journal.Journal.Journal, link.LinkId.LinkId}
use Rattle.sequence_journal.specs.declared.numbers.TheConstants.{LIMIT}
use Rattle.std.proofs.Common.{◌≡◌, ◌∙◌, ℕ, ◌≤◌, ◌<◌, List, max, Option, Some, None, IfSome}
use Rattle.std.proofs.Common.{IsSomeAnd}
use Rattle.std.proofs.Common.{inl, inr, refl, sym, ap, subst, arith}
use Rattle.std.proofs.lemmas.Bool.{lt-ltb, le-ltb}
use Rattle.yasir_io.specs.Disks.{Slots, slot_in, other_slot, with_slot, OneImage}
use Rattle.yasir_io.specs.declared.disk.Slot.{Slot, TheVariants.A, TheVariants.B}

own_stays : (link : LinkId) (kept : Slot) (slots : Slots) (floor n : ℕ)
    → number_held link (slot_in slots kept) ≡ Some floor → n < floor → n ≤ LIMIT
    → (own_floor link (with_slot slots (other_slot kept) (slot_bytes n link)) ≡ Some floor)
    × (floor_slot link (with_slot slots (other_slot kept) (slot_bytes n link)) ≡ Some kept)
own_stays link A slots floor n is below within =
    let most : max floor n ≡ floor = omega arith in (
      rw (is, held n link within) (ap Some most),
      rw (is, held n link within) (rw (le-ltb floor n (omega arith)) refl),
    )
own_stays link B slots floor n is below within =
    let most : max n floor ≡ floor = omega arith in (
      rw (is, held n link within) (ap Some most),
      rw (is, held n link within) (rw (lt-ltb n floor below) refl),
    )

-- the floor is not below what the old slots hold, if a slot holds it
old_below : (link : LinkId) (kept : Slot) (slots : Slots) (floor : ℕ)
    → number_held link (slot_in slots kept) ≡ Some floor → floor_of link slots ≡ Some floor
    → greater (Some floor) (old_floor slots) ≡ Some floor
old_below link kept slots floor holds is =
    let own = own_from link kept slots floor holds in
    let both : greater (Some own.0) (old_floor slots) ≡ Some floor =
    sym (floor_beside link slots own.0 own.1) ∙ is in
    let le : own.0 ≤ floor = below_floor own.0 floor (old_floor slots) both in
    let ge : floor ≤ own.0 = own.2 in
    let same : own.0 ≡ floor = omega (arith, le, ge) in
    subst (λ m. greater (Some m) (old_floor slots) ≡ Some floor) same both

-- If a slot holds the floor, a number below it in the other slot changes neither.
pub floor_stays : (link : LinkId) (kept slot : Slot) (told new : Option Slots) (floor n : ℕ)
    (bytes : List ℕ)
    → slot ≡ other_slot kept → bytes ≡ slot_bytes n link → new ≡ told_with told slot bytes
    → IfSome told (λ slots. floor_of link slots ≡ Some floor)
    → IfSome told (λ slots. number_held link (slot_in slots kept) ≡ Some floor)
    → n < floor → n ≤ LIMIT
    → IfSome new (λ slots. floor_of link slots ≡ Some floor)
    × IfSome new (λ slots. floor_slot link slots ≡ Some kept)
floor_stays link kept slot None new floor n bytes other number set is holds below within =
    rw set (tt, tt)
floor_stays link kept slot (Some slots) new floor n bytes other number set is holds below within =
    let after = with_slot slots (other_slot kept) (slot_bytes n link) in
    let own = own_stays link kept slots floor n holds below within in
    let is_floor : floor_of link after ≡ Some floor = floor_beside link after floor own.0
    ∙ ap (λ o. greater (Some floor) o) (old_of_but (other_slot kept) slots (slot_bytes n link))
    ∙ old_below link kept slots floor holds is in
    rw (set, number, other) (is_floor, own.1)

-- after a fault the floor is as before, whether or not the slot was set
pub floor_still : (link : LinkId) (kept slot : Slot) (told new : Option Slots) (floor n : ℕ)
    (bytes : List ℕ)
    → slot ≡ other_slot kept → bytes ≡ slot_bytes n link → MaySet told slot bytes new
    → IfSome told (λ slots. floor_of link slots ≡ Some floor)
    → IfSome told (λ slots. number_held link (slot_in slots kept) ≡ Some floor)
    → n < floor → n ≤ LIMIT → IfSome new (λ slots. floor_of link slots ≡ Some floor)
floor_still link kept slot told new floor n bytes other number (inl same) is holds below within =
    rw same is
floor_still link kept slot told new floor n bytes other number (inr set) is holds below within =
    (floor_stays link kept slot told new floor n bytes other number set is holds below within).0

-- the slot that was written holds the number
pub holds_there : (link : LinkId) (slot : Slot) (told new : Option Slots) (n : ℕ) → n ≤ LIMIT
    → new ≡ told_with told slot (slot_bytes n link)
    → IfSome new (λ slots. number_held link (slot_in slots slot) ≡ Some n)
holds_there link slot None new n within set = rw set tt
holds_there link A (Some slots) new n within set = rw set (held n link within)
holds_there link B (Some slots) new n within set = rw set (held n link within)

most_of_old : (n : ℕ) (old : Option ℕ) → IfSome old (λ o. o ≤ n) → greater (Some n) old ≡ Some n
most_of_old n None within = refl
most_of_old n (Some o) within = let most : max n o ≡ n = omega (arith, within) in ap Some most

own_twice : (link : LinkId) (kept : Slot) (slots : Slots) (n : ℕ)
    → number_held link (slot_in slots (other_slot kept)) ≡ Some n → n ≤ LIMIT
    → (own_floor link (with_slot slots kept (slot_bytes n link)) ≡ Some n)
    × (floor_slot link (with_slot slots kept (slot_bytes n link)) ≡ Some A)
own_twice link A slots n is within =
    let most : max n n ≡ n = omega arith in (
      rw (is, held n link within) (ap Some most),
      rw (is, held n link within) (rw (le-ltb n n (omega arith)) refl),
    )
own_twice link B slots n is within =
    let most : max n n ≡ n = omega arith in (
      rw (is, held n link within) (ap Some most),
      rw (is, held n link within) (rw (le-ltb n n (omega arith)) refl),
    )

-- If the other slot holds a number, and no old slot a greater one, the floor is that number once
-- this slot holds it too.
pub floor_drops : (link : LinkId) (kept : Slot) (told new : Option Slots) (n : ℕ) (bytes : List ℕ)
    → bytes ≡ slot_bytes n link → new ≡ told_with told kept bytes
    → IfSome told (λ slots. number_held link (slot_in slots (other_slot kept)) ≡ Some n)
    → OldWithin n told → n ≤ LIMIT
    → IfSome new (λ slots. floor_of link slots ≡ Some n)
    × IfSome new (λ slots. floor_slot link slots ≡ Some A)
floor_drops link kept None new n bytes number set holds old within = rw set (tt, tt)
floor_drops link kept (Some slots) new n bytes number set holds old within =
    let after = with_slot slots kept (slot_bytes n link) in
    let own = own_twice link kept slots n holds within in
    let is_floor : floor_of link after ≡ Some n = floor_beside link after n own.0
    ∙ ap (λ o. greater (Some n) o) (old_of_but kept slots (slot_bytes n link))
    ∙ most_of_old n (old_floor slots) old in
    rw (set, number) (is_floor, own.1)

-- after a fault the floor is as before, or the number
pub floor_may_drop : (link : LinkId) (kept : Slot) (told new : Option Slots) (floor n : ℕ)
    (bytes : List ℕ)
    → bytes ≡ slot_bytes n link → MaySet told kept bytes new
    → IfSome told (λ slots. floor_of link slots ≡ Some floor)
    → IfSome told (λ slots. number_held link (slot_in slots (other_slot kept)) ≡ Some n)
    → OldWithin n told → n ≤ LIMIT → IfSome new (IsEitherFloor link floor n)
floor_may_drop link kept told new floor n bytes number (inl same) is holds old within =
    rw same (if_some_weaker _ _ told (λ slots floor_is. inl floor_is) is)
floor_may_drop link kept told new floor n bytes number (inr set) is holds old within =
    if_some_weaker _ _ new (λ slots floor_is. inr floor_is)
    (floor_drops link kept told new n bytes number set holds old within).0

lower_some : (floor : Option ℕ) (m n : ℕ) → n ≤ m → IsSomeAnd floor (λ floor. m ≤ floor)
    → IsSomeAnd floor (λ floor. n ≤ floor)
lower_some None m n le from = absurd from
lower_some (Some floor) m n le from = omega (arith, le, from)

-- a floor that isn't below a number isn't below a smaller one
pub lower_at_least : (link : LinkId) (m n : ℕ) (slots : Slots) → n ≤ m
    → HasFloorAtLeast link m slots → HasFloorAtLeast link n slots
lower_at_least link m n slots le from = lower_some (floor_of link slots) m n le from

reaches : (m n : ℕ) (old : Option ℕ) → n ≤ m
    → IsSomeAnd (greater (Some m) old) (λ floor. n ≤ floor)
reaches m n None le = le
reaches m n (Some o) le = omega (arith, le)

-- the floor isn't below the number that a slot holds
floor_from_held : (link : LinkId) (slot : Slot) (slots : Slots) (n : ℕ)
    → number_held link (slot_in slots slot) ≡ Some n → HasFloorAtLeast link n slots
floor_from_held link slot slots n is =
    let own = own_from link slot slots n is in
    subst (λ o. IsSomeAnd o (λ floor. n ≤ floor)) (sym (floor_beside link slots own.0 own.1))
    (reaches own.0 n (old_floor slots) own.2)

other_of_same_but : (slot : Slot) (old new : Slots) → AreSameBut slot old new
    → slot_in new (other_slot slot) ≡ slot_in old (other_slot slot)
other_of_same_but A old new same = ap (λ s. s.b) same
other_of_same_but B old new same = ap (λ s. s.a) same

set_over : (slot : Slot) (old new : Slots) (bytes : List ℕ) → AreSameBut slot old new
    → AreSameBut slot (with_slot old slot bytes) new
set_over A old new bytes same = same
set_over B old new bytes same = same

same_but_set : (slot : Slot) (told new : Option Slots) (bytes : List ℕ) (before c : Slots)
    → told ≡ Some before → MaySet told slot bytes new → AreSameBut slot before c
    → IsSomeAnd new (λ slots. AreSameBut slot slots c)
same_but_set slot told new bytes before c is (inl kept) same = rw (kept, is) same
same_but_set slot told new bytes before c is (inr set) same =
    rw (set, is) (set_over slot before c bytes same)

-- A slot may have been set, and the other one holds the floor. If the slots as read were the only
-- image before, the journal is crash-safe.
pub safe_by_other : (journal : Journal) (slot : Slot) (told new : Option Slots)
    (images left : Slots → Type 0) (bytes : List ℕ)
    → kept_slot journal ≡ other_slot slot → MaySet told slot bytes new → OneImage told images
    → ((c : Slots) → left c → IsBut slot images c)
    → IfSome told (λ slots. number_held (journal_link journal) (slot_in slots (other_slot slot))
    ≡ Some (journal_floor journal))
    → IsCrashSafe journal new left
safe_by_other journal slot told new images left bytes other may one beside holds =
    let link = journal_link journal in
    record {
      kept = λ c image.
          let but = beside c image in
          subst (λ s. IsSomeAnd new (λ slots. AreSameBut s slots c))
          (sym (ap other_slot other ∙ other_twice slot))
          (same_but_set slot told new bytes but.0 c (one but.0 but.1) may but.2);
      floors = λ c image.
          let but = beside c image in
          floor_from_held link (other_slot slot) c (journal_floor journal)
          (ap (number_held link) (other_of_same_but slot but.0 c but.2)
          ∙ at_some _ told but.0 (one but.0 but.1) holds);
    }
