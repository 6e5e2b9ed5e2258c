-- What a journal is that was loaded from slots A and B as a caller gives them. The old slots hold
-- no number then.
use Rattle.sequence_journal.specs.declared.journal.{Journal.Journal, LoadError.LoadError}
use Rattle.std.proofs.Common.{◌≡◌, ◌∙◌, ℕ, ◌+◌, refl, sym, ap, arith}
use Rattle.std.proofs.lemmas.Option.{same_Some}
use Rattle.std.specs.Prelude.{Option, Some, None, List, replicate}
use Rattle.yasir_io.specs.{Disks.Slots, declared.disk.TheConstants.OLD_SLOT_LEN}
use Rattle.sequence_journal.specs.declared.journal.LoadError.TheVariants as Load
use Rattle.any_box.specs.Held.{slots_given}
use Rattle.sequence_journal.specs.{Journal.journal_link, Journal.journal_floor, Loading.IsLoaded}
use Rattle.sequence_journal.specs.{Loading.LeavesLoaded, Loading.RefusesLoad, Slots.floor_of}
use Rattle.sequence_journal.specs.Slots.{floor_by, own_floor, any_floor, old_floor, old_number_held}
use Rattle.sequence_journal.specs.{Slots.old_slot_bytes, Slots.greater, declared.link.LinkId.LinkId}

blank-none : old_number_held (replicate OLD_SLOT_LEN 0) ≡ None
unfolding old_number_held old_slot_bytes
blank-none = refl

abbrev more-or : Option ℕ → ℕ
more-or None = 0
more-or (Some n) = n + 1

none-by : (any : Option ℕ) → floor_by None any None ≡ None
none-by None = refl
none-by (Some n) = refl

-- without a number for the own link there is no floor
no-floor : (link : LinkId) (a b : List ℕ) (floor : ℕ) → own_floor link (slots_given a b) ≡ None
    → floor_of link (slots_given a b) ≡ Some floor → ⊥
no-floor link a b floor own is =
    let slots = slots_given a b in
    let old : old_floor slots ≡ None = ap (λ n. greater n n) blank-none in
    let none : floor_of link slots ≡ None =
    ap (λ n. floor_by n (any_floor slots) (old_floor slots)) own
    ∙ ap (λ n. floor_by None (any_floor slots) n) old ∙ none-by (any_floor slots) in
    let e : floor + 1 ≡ 0 = ap more-or (sym is ∙ none) in
    absurd (omega (arith, e))

leaves-same : (link : LinkId) (a b : List ℕ) (floor : ℕ) (new : Slots)
    (old_images new_images : Slots → Type 0) (own : Option ℕ)
    → own_floor link (slots_given a b) ≡ own
    → floor_of link (slots_given a b) ≡ Some floor
    → LeavesLoaded own link floor (Some (slots_given a b)) (Some new) old_images new_images
    → new ≡ slots_given a b
leaves-same link a b floor new old_images new_images (Some n) is has leaves =
    same_Some new (slots_given a b) leaves.0
leaves-same link a b floor new old_images new_images None is has leaves =
    absurd (no-floor link a b floor is has)

module _ (link : LinkId) (a b : List ℕ) (new : Slots) (old_images new_images : Slots → Type 0)
    (journal : Journal)
    (loaded : IsLoaded link (Some (slots_given a b)) (Some new) old_images new_images journal) where
  pub loaded_link : journal_link journal ≡ link
  loaded_link = loaded.link_is

  pub loaded_floor : floor_of link (slots_given a b) ≡ Some (journal_floor journal)
  loaded_floor = ap (floor_of link) loaded.are_read ∙ loaded.floor

  pub loaded_slots : new ≡ slots_given a b
  loaded_slots = leaves-same link a b (journal_floor journal) new old_images new_images
      (own_floor link loaded.read) (ap (own_floor link) loaded.are_read) loaded_floor loaded.leaves

-- a refusal in which no fault is counted says that the slots haven't changed
pub refused_again : (link : LinkId) (old new : Option Slots) (error : LoadError)
    → RefusesLoad link old new 0 0 error → RefusesLoad link old old 0 0 error
refused_again link old new Load.Fault refused =
    absurd (let rose = refused.0 in omega (arith, rose))
refused_again link old new (Load.Bad a b) refused = (refused.0, refl, refl)
refused_again link old new (Load.WrongLink slot) refused = (refused.0, refl, refl)
