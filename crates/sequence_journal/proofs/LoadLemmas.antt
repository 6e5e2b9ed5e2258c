-- Lemmas on loading a journal, and on what a crash leaves while a journal is taken over.
use Rattle.sequence_journal.specs.{Journal.journal_floor, Journal.HasFloorAtLeast, Links.HasDirection}
use Rattle.sequence_journal.specs.Loading.{AreRead, IsOld, MayBegin, MayLeaveLoading, KeepsLoadable}
use Rattle.sequence_journal.specs.Loading.{LeavesLoaded, IsLoaded, MayTakeOver, RefusesLoad}
use Rattle.sequence_journal.specs.Slots.{number_held, any_number_held, greater, place_of_greater}
use Rattle.sequence_journal.specs.Slots.{link_held, slot_bytes, old_number_held, old_slot_bytes, own_floor}
use Rattle.sequence_journal.specs.Slots.{any_floor, old_floor, greatest, floor_by, floor_of}
use Rattle.sequence_journal.specs.Slots.{wrong_by, wrong_slot}
use Rattle.sequence_journal.specs.declared.journal.{Journal.Journal, LoadError.LoadError}
use Rattle.sequence_journal.specs.declared.link.LinkId.{LinkId}
use Rattle.std.proofs.Common.{◌≡◌, ◌∙◌, ℕ, ◌≤◌, List, max, Option, Some, None, IfSome, IsSomeAnd}
use Rattle.std.proofs.Common.{inl, inr, refl, sym, ap, subst, arith, unwrap_or, replicate}
use Rattle.yasir_io.specs.{Disks.Slots, Disks.with_slot, Disks.OneImage, Steady.blank_old}
use Rattle.yasir_io.specs.declared.disk.{Slot.Slot, Slot.TheVariants.A, TheConstants.SLOT_LEN}
use Rattle.sequence_journal.specs.declared.journal.LoadError.TheVariants as Load
use Rattle.sequence_journal.proofs.SlotLemmas.{neither, no_own_floor, none_of_own, at_some}
use Rattle.{sequence_journal.proofs.SlotLemmas.if_some_weaker, yasir_io.specs.Causes.Rose}

-- blank slots hold no number
pub blank_holds_none : greatest (record {
  a = replicate SLOT_LEN 0;
  b = replicate SLOT_LEN 0;
  old = blank_old;
}) ≡ None
unfolding link_held number_held slot_bytes old_number_held old_slot_bytes
blank_holds_none = refl

-- if no slot holds a number, a journal may begin at 0
pub may_begin_anew : (link : LinkId) (told : Option Slots) (read : Slots) → HasDirection link
    → AreRead told read → greatest read ≡ None → IfSome told (MayBegin link 0)
may_begin_anew link told read right are none =
    let both = neither (any_floor read) (old_floor read) none in
    let may : MayBegin link 0 read = record {
      none = no_own_floor link read right both.0;
      greatest = ap (λ o. greater (Some 0) o) both.1;
    } in
    if_some_weaker (λ slots. slots ≡ read) (MayBegin link 0) told
    (λ slots same. subst (MayBegin link 0) (sym same) may) are

by_what_it_holds : (link : LinkId) (n : ℕ) (slots c : Slots) (own any : Option ℕ) → IsOld n slots
    → floor_of link c ≡ floor_by (greater own None) (greater any None) (Some n)
    → wrong_slot link c ≡ wrong_by (greater own None) (place_of_greater any None)
    → KeepsLoadable link slots n c
by_what_it_holds link n slots c (Some m) any is_old floor wrong =
    let le : n ≤ max m n = omega arith in
    inl (subst (λ o. IsSomeAnd o (λ floor. n ≤ floor)) (sym floor) le)
by_what_it_holds link n slots c None (Some k) is_old floor wrong = inr (is_old, wrong)
by_what_it_holds link n slots c None None is_old floor wrong =
    let le : n ≤ n = omega arith in
    inl (subst (λ o. IsSomeAnd o (λ floor. n ≤ floor)) (sym floor) le)

-- the slots of an old journal with slot A torn, by the number that slot A then holds for the link,
-- and for any link
torn_old : (link : LinkId) (n : ℕ) (slots : Slots) (bytes : List ℕ) (own any : Option ℕ)
    → HasDirection link → IsOld n slots → number_held link bytes ≡ own → any_number_held bytes ≡ any
    → KeepsLoadable link slots n (with_slot slots A bytes)
torn_old link n slots bytes own any right is_old own_is any_is =
    let none = neither (any_number_held slots.a) (any_number_held slots.b) is_old.none in
    let none_own : number_held link slots.b ≡ None = none_of_own link slots.b right none.1 in
    let c : Slots = with_slot slots A bytes in
    let own_c : own_floor link c ≡ greater own None =
    ap (λ o. greater o (number_held link slots.b)) own_is ∙ ap (greater own) none_own in
    let any_c : any_floor c ≡ greater any None =
    ap (λ o. greater o (any_number_held slots.b)) any_is ∙ ap (greater any) none.1 in
    let place_c : place_of_greater (any_number_held c.a) (any_number_held c.b)
    ≡ place_of_greater any None =
    ap (λ o. place_of_greater o (any_number_held slots.b)) any_is
    ∙ ap (place_of_greater any) none.1 in
    let floor_c : floor_of link c ≡ floor_by (greater own None) (greater any None) (Some n) =
    ap (λ o. floor_by o (any_floor c) (old_floor c)) own_c
    ∙ ap (λ o. floor_by (greater own None) o (old_floor c)) any_c
    ∙ ap (λ o. floor_by (greater own None) (greater any None) o) is_old.number in
    let wrong_c : wrong_slot link c ≡ wrong_by (greater own None) (place_of_greater any None) =
    ap (λ o. wrong_by o (place_of_greater (any_number_held c.a) (any_number_held c.b))) own_c
    ∙ ap (wrong_by (greater own None)) place_c in
    by_what_it_holds link n slots c own any is_old floor_c wrong_c

old_number : (link : LinkId) (slots : Slots) (floor n : ℕ) → HasDirection link → IsOld n slots
    → floor_of link slots ≡ Some floor → n ≡ floor
old_number link slots floor n right is_old floor_is =
    let stands : floor_of link slots ≡ Some n =
    ap (λ o. floor_by o (any_floor slots) (old_floor slots))
    (no_own_floor link slots right is_old.none)
    ∙ ap (λ o. floor_by None o (old_floor slots)) is_old.none ∙ is_old.number in
    ap (λ o. unwrap_or o n) (sym stands ∙ floor_is)

-- what a crash leaves of a journal while it is being loaded
pub while_loading : (link : LinkId) (slots : Slots) (floor : ℕ) (told : Option Slots)
    (images : Slots → Type 0) → HasDirection link → told ≡ Some slots → OneImage told images
    → floor_of link slots ≡ Some floor → (c : Slots) → MayLeaveLoading told images c
    → KeepsLoadable link slots floor c
while_loading link slots floor told images right is synced floor_is c (inl image) =
    let same : slots ≡ c = ap (λ o. unwrap_or o slots) (sym is ∙ synced c image) in
    let stands : HasFloorAtLeast link floor slots = rw floor_is (omega arith) in
    inl (subst (HasFloorAtLeast link floor) same stands)
while_loading link slots floor told images right is synced floor_is c (inr torn) =
    let was = at_some (λ slots. (n : ℕ) × IsOld n slots) told slots is torn.0 in
    let d = torn.1.0 in
    let same : d ≡ slots = ap (λ o. unwrap_or o d) (sym (synced d torn.1.1) ∙ is) in
    let n_is = old_number link slots floor was.0 right was.1 floor_is in
    let is_old : IsOld floor slots = subst (λ n. IsOld n slots) n_is was.1 in
    let but : c ≡ with_slot slots A c.a = torn.1.2 ∙ ap (λ d. with_slot d A c.a) same in
    subst (KeepsLoadable link slots floor) (sym but)
    (torn_old link floor slots c.a _ _ right is_old refl refl)

old_of_none : (any old : Option ℕ) (n : ℕ) → floor_by None any old ≡ Some n
    → (any ≡ None) × (old ≡ Some n)
old_of_none None old n is = (refl, is)
old_of_none (Some a) old n is = absurd cc

-- what a load has done to the slots
pub found_loaded : (link : LinkId) (told_old told_new : Option Slots)
    (images_old images_new : Slots → Type 0) (journal : Journal)
    → IsLoaded link told_old told_new images_old images_new journal
    → MayTakeOver link told_old told_new
found_loaded link told_old told_new images_old images_new journal load =
    let floor = journal_floor journal in
    let P : Option ℕ → Type 0 = λ o. own_floor link load.read ≡ o
    → LeavesLoaded o link floor told_old told_new images_old images_new
    → MayTakeOver link told_old told_new in
    elim (own_floor link load.read) as P [
      | None ↦ λ is leaves. (
          let parts = old_of_none (any_floor load.read) (old_floor load.read) floor
          (ap (λ o. floor_by o (any_floor load.read) (old_floor load.read)) (sym is)
          ∙ load.floor) in
          let old : IsOld floor load.read = record { none = parts.0; number = parts.1 } in
          inr (
            floor,
            if_some_weaker (λ slots. slots ≡ load.read) (IsOld floor) told_old
                (λ slots same. subst (IsOld floor) (sym same) old) load.are_read,
            leaves.0,
          )
          )
      | Some own ↦ λ is leaves. inl leaves.0
    ] refl load.leaves

-- if slots have numbers for other links only, they have no floor for this one
none_of_others : (own any old : Option ℕ) (a b : Option ℕ) (place : Slot)
    → wrong_by own (place_of_greater a b) ≡ Some place
    → any ≡ greater a b → floor_by own any old ≡ None
none_of_others (Some m) any old a b place wrong is = absurd cc
none_of_others None any old None None place wrong is = absurd cc
none_of_others None any old None (Some b) place wrong is = rw is refl
none_of_others None any old (Some a) None place wrong is = rw is refl
none_of_others None any old (Some a) (Some b) place wrong is = rw is refl

pub no_floor_of_others : (link : LinkId) (slots : Slots) (place : Slot)
    → wrong_slot link slots ≡ Some place → floor_of link slots ≡ None
no_floor_of_others link slots place wrong =
    none_of_others (own_floor link slots) (any_floor slots) (old_floor slots)
    (any_number_held slots.a) (any_number_held slots.b) place wrong refl

-- if no slot holds a number, there is no floor
no_floor_of_none : (link : LinkId) (slots : Slots) → HasDirection link → any_floor slots ≡ None
    → old_floor slots ≡ None → floor_of link slots ≡ None
no_floor_of_none link slots right none none_old =
    ap (λ o. floor_by o (any_floor slots) (old_floor slots)) (no_own_floor link slots right none)
    ∙ ap (λ o. floor_by None o (old_floor slots)) none ∙ none_old

-- if slots have a floor, only a fault refuses to load it
pub refused_for_a_fault : (link : LinkId) (slots : Slots) (n : ℕ) (new : Option Slots)
    (before now : ℕ) (error : LoadError) → HasDirection link → HasFloorAtLeast link n slots
    → RefusesLoad link (Some slots) new before now error → Rose before now
refused_for_a_fault link slots n new before now Load.Fault right from refuses = refuses.0
refused_for_a_fault link slots n new before now (Load.Bad a b) right from refuses =
    let found = refuses.0 in
    let there = subst (HasFloorAtLeast link n) found.are_read from in
    let none = no_floor_of_none link found.read right found.none found.none_old in
    absurd (subst (λ o. IsSomeAnd o (λ floor. n ≤ floor)) none there)
refused_for_a_fault link slots n new before now (Load.WrongLink slot) right from refuses =
    let found = refuses.0 in
    let there = subst (HasFloorAtLeast link n) found.are_read from in
    let none = no_floor_of_others link found.read found.place found.wrong in
    absurd (subst (λ o. IsSomeAnd o (λ floor. n ≤ floor)) none there)
