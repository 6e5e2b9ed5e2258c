-- Laws on the floor of slots.
use Rattle.sequence_journal.specs.Journal.{journal_link, journal_floor, kept_slot, Fits, AreSameBut}
use Rattle.sequence_journal.specs.Journal.{IsKept, HasFloorAtLeast, HasFloorFrom, IsCrashSafe}
use Rattle.sequence_journal.specs.Slots.{number_held, greater, place_of_greater, own_floor}
use Rattle.sequence_journal.specs.Slots.{any_floor, old_floor, floor_by, floor_of, floor_slot}
use Rattle.sequence_journal.specs.declared.{journal.Journal.Journal, link.LinkId.LinkId}
use Rattle.std.proofs.Common.{◌∙◌, ap, sym, subst, inl, inr, arith}
use Rattle.std.proofs.lemmas.Bool.{lt-ltb, le-ltb, cases_lt}
use Rattle.std.specs.Prelude.{◌≡◌, ℕ, ◌≤◌, max, nat_lt, List, Option, Some, None, IsSomeAnd, refl}
use Rattle.std.specs.Prelude.{unwrap_or, if◌then◌else◌}
use Rattle.yasir_io.specs.Disks.{Slots, slot_in, other_slot, with_slot, OneImage}
use Rattle.yasir_io.specs.declared.disk.Slot.{Slot, TheVariants.A, TheVariants.B}

-- the one of two numbers that is in this slot
abbrev pub chosen : Option ℕ → Option ℕ → Slot → Option ℕ
chosen a b A = a
chosen a b B = b

slot_found : (place slot : Slot) → Some place ≡ Some slot → place ≡ slot
slot_found place slot is = ap (λ o. unwrap_or o place) is

-- if the greater of two numbers is in a slot, it is the number of that slot
pub greater_is_there : (a b : Option ℕ) (slot : Slot) → place_of_greater a b ≡ Some slot
    → (m : ℕ) × (greater a b ≡ Some m) × (chosen a b slot ≡ Some m)
greater_is_there None None slot is = absurd cc
greater_is_there None (Some b) slot is =
    (b, refl, subst (λ s. chosen None (Some b) s ≡ Some b) (slot_found B slot is) refl)
greater_is_there (Some a) None slot is =
    (a, refl, subst (λ s. chosen (Some a) None s ≡ Some a) (slot_found A slot is) refl)
greater_is_there (Some a) (Some b) slot is =
    let there : (if nat_lt a b then B else A) ≡ slot = slot_found _ slot is in
    elim (cases_lt a b) as (λ _. (m : ℕ) × (greater (Some a) (Some b) ≡ Some m)
    × (chosen (Some a) (Some b) slot ≡ Some m)) [
      | inl lt ↦ (
          let second : (if nat_lt a b then B else A) ≡ B = rw (lt-ltb a b lt) refl in
          let most : max a b ≡ b = omega arith in (
            b,
            ap Some most,
            subst (λ s. chosen (Some a) (Some b) s ≡ Some b) (sym second ∙ there) refl,
          )
          )
      | inr ge ↦ (
          let first : (if nat_lt a b then B else A) ≡ A = rw (le-ltb a b ge) refl in
          let most : max a b ≡ a = omega arith in (
            a,
            ap Some most,
            subst (λ s. chosen (Some a) (Some b) s ≡ Some a) (sym first ∙ there) refl,
          )
          )
    ]

number_of_chosen : (link : LinkId) (slots : Slots) (slot : Slot)
    → number_held link (slot_in slots slot)
    ≡ chosen (number_held link slots.a) (number_held link slots.b) slot
number_of_chosen link slots A = refl
number_of_chosen link slots B = refl

number_is : (m n : ℕ) → Some m ≡ Some n → m ≡ n
number_is m n is = ap (λ o. unwrap_or o m) is

-- the floor of slots that hold a number for the link itself
pub floor_beside : (link : LinkId) (slots : Slots) (m : ℕ) → own_floor link slots ≡ Some m
    → floor_of link slots ≡ greater (Some m) (old_floor slots)
floor_beside link slots m own =
    ap (λ o. floor_by o (any_floor slots) (old_floor slots)) own

-- The slot of the floor holds the greatest number of the link, and the floor is this number or an
-- old one.
pub floor_is_held : (link : LinkId) (slots : Slots) (slot : Slot) (n : ℕ)
    → floor_of link slots ≡ Some n → floor_slot link slots ≡ Some slot
    → (m : ℕ) × (number_held link (slot_in slots slot) ≡ Some m)
    × (greater (Some m) (old_floor slots) ≡ Some n)
floor_is_held link slots slot n is kept =
    let found = greater_is_there (number_held link slots.a) (number_held link slots.b) slot kept in (
      found.0,
      number_of_chosen link slots slot ∙ found.2,
      sym (floor_beside link slots found.0 found.1) ∙ is,
    )

left_of_greater : (b : Option ℕ) (n : ℕ) → (m : ℕ) × (greater (Some n) b ≡ Some m) × (n ≤ m)
left_of_greater None n = (n, refl, omega arith)
left_of_greater (Some b) n = (max n b, refl, omega arith)

right_of_greater : (a : Option ℕ) (n : ℕ) → (m : ℕ) × (greater a (Some n) ≡ Some m) × (n ≤ m)
right_of_greater None n = (n, refl, omega arith)
right_of_greater (Some a) n = (max a n, refl, omega arith)

-- the greatest number of a link isn't below what a slot holds for it
pub own_from : (link : LinkId) (slot : Slot) (slots : Slots) (n : ℕ)
    → number_held link (slot_in slots slot) ≡ Some n
    → (m : ℕ) × (own_floor link slots ≡ Some m) × (n ≤ m)
own_from link A slots n is = rw is (left_of_greater (number_held link slots.b) n)
own_from link B slots n is = rw is (right_of_greater (number_held link slots.a) n)

-- a greater number of the link doesn't lower the floor
greater_from : (m k n : ℕ) (old : Option ℕ) → m ≤ k → greater (Some m) old ≡ Some n
    → IsSomeAnd (greater (Some k) old) (λ floor. n ≤ floor)
greater_from m k n None le is = let same : m ≡ n = number_is m n is in omega arith
greater_from m k n (Some o) le is =
    let same : max m o ≡ n = number_is (max m o) n is in omega arith

-- the floor isn't below what a slot and the old slots hold
pub floor_from : (link : LinkId) (slot : Slot) (slots : Slots) (m n : ℕ) (old : Option ℕ)
    → number_held link (slot_in slots slot) ≡ Some m → old_floor slots ≡ old
    → greater (Some m) old ≡ Some n → HasFloorAtLeast link n slots
floor_from link slot slots m n old is old_is floor =
    let own = own_from link slot slots m is in
    subst (λ o. IsSomeAnd o (λ floor. n ≤ floor))
    (sym (floor_beside link slots own.0 own.1
    ∙ ap (λ o. greater (Some own.0) o) old_is))
    (greater_from m own.0 n old own.2 floor)

-- slots that haven't changed are as they were, whichever slot is left out
pub same_as_is : (slot : Slot) (slots : Slots) → AreSameBut slot slots slots
same_as_is A slots = refl
same_as_is B slots = refl

pub kept_where_synced : (journal : Journal) (told : Option Slots) (images : Slots → Type 0)
    → OneImage told images → IsKept journal told images
kept_where_synced journal told images synced c image =
    rw (synced c image) (same_as_is (other_slot (kept_slot journal)) c)

pub kept_of_but : (slot : Slot) (slots : Slots) (bytes : List ℕ)
    → slot_in (with_slot slots (other_slot slot) bytes) slot ≡ slot_in slots slot
kept_of_but A slots bytes = refl
kept_of_but B slots bytes = refl

pub old_of_but : (slot : Slot) (slots : Slots) (bytes : List ℕ)
    → old_floor (with_slot slots slot bytes) ≡ old_floor slots
old_of_but A slots bytes = refl
old_of_but B slots bytes = refl

kept_floor : (journal : Journal) (told : Option Slots) (c : Slots) → Fits journal told
    → IsSomeAnd told (λ slots. AreSameBut (other_slot (kept_slot journal)) slots c)
    → HasFloorFrom journal c
kept_floor journal None c fits same = absurd same
kept_floor journal (Some slots) c fits same =
    let link = journal_link journal in
    let kept = kept_slot journal in
    let other = other_slot kept in
    let found = floor_is_held link slots kept (journal_floor journal) fits.floor fits.kept in
    floor_from link kept c found.0 (journal_floor journal) (old_floor slots)
    (ap (λ s. number_held link (slot_in s kept)) same
    ∙ ap (number_held link) (kept_of_but kept slots (slot_in c other)) ∙ found.1)
    (ap old_floor same ∙ old_of_but other slots (slot_in c other)) found.2

-- If every image is the slots as read, except in the slot that doesn't keep the floor, then no
-- image has a floor below the journal's.
pub floor_of_images : (journal : Journal) (told : Option Slots) (images : Slots → Type 0)
    → Fits journal told → IsKept journal told images → (c : Slots) → images c
    → HasFloorFrom journal c
floor_of_images journal told images fits kept c image =
    kept_floor journal told c fits (kept c image)

-- If the only image is the slots as read, the journal is crash-safe.
pub safe_where_synced : (journal : Journal) (told : Option Slots) (images : Slots → Type 0)
    → Fits journal told → OneImage told images → IsCrashSafe journal told images
safe_where_synced journal told images fits synced =
    let kept = kept_where_synced journal told images synced in
    record {
      kept = kept;
      floors = floor_of_images journal told images fits kept;
    }
