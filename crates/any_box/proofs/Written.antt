-- What a caller writes: it makes the slots the box's again, and loses no floor.
use Rattle.any_box.specs.declared.any_box.AnyBox.{AnyBox}
use Rattle.any_box.specs.declared.defined.DefinedBox.{Ghosts as DefinedBox}
use Rattle.any_box.{proofs.Places.fits_back, specs.Commits.OwesDisk, specs.Commits.IsOwed}
use Rattle.any_box.specs.Held.{slots_held, link_of_held, floor_held, StepsHeld}
use Rattle.any_box.specs.declared.held_box.{HeldBox.HeldBox, HeldStep.HeldStep}
use Rattle.any_box.specs.declared.owed.Commit.{Commit}
use Rattle.sequence_journal.proofs.FloorLaws.{floor_of_images}
use Rattle.sequence_journal.specs.Journal.{kept_slot, AreSameBut, HasFloorAtLeast}
use Rattle.sequence_journal.specs.Slots.{floor_of}
use Rattle.std.proofs.Common.{◌≡◌, ◌∙◌, ℕ, List, refl, sym, ap, subst}
use Rattle.std.specs.Prelude.{Some}
use Rattle.yasir_io.specs.Disks.{Slots, with_slot, other_slot}
use Rattle.yasir_io.specs.declared.disk.Slot.{Slot, TheVariants.A, TheVariants.B}
use Rattle.yasir_ticks.specs.declared.tick.Tick.{Tick}

-- slots with one of them set are as they were but for this one
but-set : (slot : Slot) (slots : Slots) (bytes : List ℕ)
    → AreSameBut slot slots (with_slot slots slot bytes)
but-set A slots bytes = refl
but-set B slots bytes = refl

module _ (boxes : DefinedBox AnyBox) (old new : HeldBox) (t : Tick) (step : HeldStep)
    (commit : Commit) (steps : StepsHeld boxes old new t step)
    (is : step.commit ≡ Some commit) where
  owed : IsOwed old.journal new.journal old.disk new.disk commit
  owed = subst (λ c. OwesDisk old.journal new.journal old.disk new.disk c) is steps.owes

  pub written-slots : with_slot (slots_held old) commit.slot commit.bytes ≡ slots_held new
  written-slots = ap (λ slot. with_slot (slots_held old) slot commit.bytes) owed.slot_is
      ∙ ap (with_slot (slots_held old) (other_slot (kept_slot old.journal))) owed.bytes_are
      ∙ sym owed.commits.set

  pub written-floor : floor_of (link_of_held old) (slots_held new) ≡ Some (floor_held new)
  written-floor =
      subst (λ link. floor_of link (slots_held new) ≡ Some (floor_held new)) steps.link new.floor_is

  pub torn-floor : (bytes : List ℕ) → HasFloorAtLeast (link_of_held old) (floor_held old)
      (with_slot (slots_held old) commit.slot bytes)
  torn-floor bytes =
      let free = other_slot (kept_slot old.journal) in
      let image = with_slot (slots_held old) free bytes in
      let fits = fits_back old.journal (slots_held old) old.whole old.floor_is old.kept_is in
      let kept = floor_of_images old.journal (Some (slots_held old)) (λ (c : Slots). c ≡ image) fits
      (λ c e. subst (λ (d : Slots). AreSameBut free (slots_held old) d) (sym e)
      (but-set free (slots_held old) bytes)) image refl in
      subst (λ (slot : Slot). HasFloorAtLeast (link_of_held old) (floor_held old)
      (with_slot (slots_held old) slot bytes)) (sym owed.slot_is) kept
