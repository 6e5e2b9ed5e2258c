-- A slot by its number, and the disk of a journal by what a box keeps of it.
use Rattle.any_box.specs.Places.{slot_number}
use Rattle.sequence_journal.specs.Journal.{journal_link, journal_floor, kept_slot, is_broken, Fits}
use Rattle.sequence_journal.specs.Slots.{floor_of, floor_slot}
use Rattle.sequence_journal.specs.declared.{journal.Journal.Journal, link.LinkId.LinkId}
use Rattle.std.proofs.Common.{◌≡◌, ◌∙◌, ℕ, refl, sym, ap, arith}
use Rattle.std.specs.Prelude.{Option, Some, None, option_map, false}
use Rattle.yasir_io.specs.Disks.{Slots}
use Rattle.yasir_io.specs.declared.disk.Slot.{Slot, TheVariants.A, TheVariants.B}

abbrev number-or : Option ℕ → ℕ
number-or None = 9
number-or (Some n) = n

pub kept-back : (place : Option Slot) (kept : Slot)
    → option_map slot_number place ≡ Some (slot_number kept) → place ≡ Some kept
kept-back None A is = let e : 9 ≡ 0 = ap number-or is in absurd (omega (arith, e))
kept-back None B is = let e : 9 ≡ 1 = ap number-or is in absurd (omega (arith, e))
kept-back (Some A) A is = refl
kept-back (Some A) B is = let e : 0 ≡ 1 = ap number-or is in absurd (omega (arith, e))
kept-back (Some B) A is = let e : 1 ≡ 0 = ap number-or is in absurd (omega (arith, e))
kept-back (Some B) B is = refl

pub fits_back : (journal : Journal) (slots : Slots) → is_broken journal ≡ false
    → floor_of (journal_link journal) slots ≡ Some (journal_floor journal)
    → option_map slot_number (floor_slot (journal_link journal) slots)
    ≡ Some (slot_number (kept_slot journal))
    → Fits journal (Some slots)
fits_back journal slots whole floor kept = record {
  whole = whole;
  floor = floor;
  kept = kept-back (floor_slot (journal_link journal) slots) (kept_slot journal) kept;
}

pub fits_kept : (journal : Journal) (slots : Slots) → Fits journal (Some slots)
    → option_map slot_number (floor_slot (journal_link journal) slots)
    ≡ Some (slot_number (kept_slot journal))
fits_kept journal slots fits = ap (option_map slot_number) fits.kept

pub own_back : (l m : LinkId) → l.label ≡ m.label → l.dir ≡ m.dir → l.profile ≡ m.profile → l ≡ m
own_back l m label dir profile =
    λ i. record { label = label i; dir = dir i; profile = profile i }

-- two links that each stay the same stay alike
module _ (l l' m m' : LinkId) (l-is : l' ≡ l) (m-is : m' ≡ m) where
  pub label_kept : l.label ≡ m.label → l'.label ≡ m'.label
  label_kept is = ap (λ k. k.label) l-is ∙ is ∙ ap (λ k. k.label) (sym m-is)

  pub dir_kept : l.dir ≡ m.dir → l'.dir ≡ m'.dir
  dir_kept is = ap (λ k. k.dir) l-is ∙ is ∙ ap (λ k. k.dir) (sym m-is)

  pub profile_kept : l.profile ≡ m.profile → l'.profile ≡ m'.profile
  profile_kept is = ap (λ k. k.profile) l-is ∙ is ∙ ap (λ k. k.profile) (sym m-is)

-- two links that equal a third one are alike
module _ (l m n : LinkId) (l-is : l ≡ n) (m-is : m ≡ n) where
  pub label_same : l.label ≡ m.label
  label_same = ap (λ k. k.label) (l-is ∙ sym m-is)

  pub dir_same : l.dir ≡ m.dir
  dir_same = ap (λ k. k.dir) (l-is ∙ sym m-is)

  pub profile_same : l.profile ≡ m.profile
  profile_same = ap (λ k. k.profile) (l-is ∙ sym m-is)
