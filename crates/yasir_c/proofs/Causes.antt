-- Calls that take no tick, and return no answer.
use Rattle.any_box.specs.declared.any_box.AnySpacer.{AnySpacer}
use Rattle.any_box.specs.declared.defined.DefinedSpacer.{Ghosts as DefinedSpacer}
use Rattle.any_box.specs.declared.any_box.AnyBox.{AnyBox}
use Rattle.any_box.specs.declared.defined.DefinedBox.{Ghosts as DefinedBox}
use Rattle.any_box.specs.HeldSpacers.{StepsOrFull}
use Rattle.any_box.specs.declared.held_spacer.HeldSpacer.{HeldSpacer}
use Rattle.{line_spacer.specs.declared.spacer.SpaceStep.SpaceStep, std.proofs.Common.◌≡◌}
use Rattle.std.proofs.Common.{◌∙◌, ℕ, List, IfOk, IfErr, refl, sym, ap}
use Rattle.std.specs.Prelude.{Option, Some, None, ok_or}
use Rattle.yasir_c.specs.Edge.{StepsBy, CommittedBy}
use Rattle.yasir_c.specs.Holding.{HandsNothing, TakesNoTick, SpacesTick, SpacesNoTick}
use Rattle.yasir_c.specs.{SpacerEdge.SpacesBy, declared.answer.Answer.Answer}
use Rattle.yasir_c.specs.declared.held.Held.{Held, TheVariants.Spacer}
use Rattle.yasir_c.specs.declared.{spaced.Spaced.Spaced, status.Status.Status}
use Rattle.yasir_c.specs.declared.status.Status.TheVariants as Is
use Rattle.yasir_ticks.specs.declared.tick.Tick.{Tick}

-- no answer that was withheld is returned
pub hands-nothing : (old new : Option Held) (ok : ℕ) (answer : Answer) (status : Status)
    → HandsNothing ok old new status → CommittedBy old new ok answer answer status
hands-nothing old new ok answer Is.Done why = absurd why
hands-nothing old new ok answer status why = (refl, why)

module _ (boxes : DefinedBox AnyBox) where
  -- a box takes no tick
  pub takes-none : (old new : Option Held) (number : ℕ) (answer : Answer) (slot : List ℕ)
      (status : Status) → new ≡ old → TakesNoTick old status
      → StepsBy boxes old new number answer answer slot slot status
  takes-none old new number answer slot Is.Full is why =
      (record { box_is = is; answer_is = refl; slot_is = refl }, why)
  takes-none old new number answer slot Is.Waiting is why =
      (record { box_is = is; answer_is = refl; slot_is = refl }, why)
  takes-none old new number answer slot Is.Stopped is why =
      (record { box_is = is; answer_is = refl; slot_is = refl }, why)
  takes-none old new number answer slot Is.Empty is why =
      (record { box_is = is; answer_is = refl; slot_is = refl }, why)
  takes-none old new number answer slot status is why = absurd why

module _ (spacers : DefinedSpacer AnySpacer) where
  -- a spacer takes no tick
  pub spaces-none : (old new : Option Held) (number : ℕ) (answer : Spaced) (status : Status)
      → new ≡ old → SpacesNoTick old status
      → SpacesBy spacers old new number answer answer status
  spaces-none old new number answer Is.Full is why = (is, refl, why)
  spaces-none old new number answer Is.Empty is why = (is, refl, why)
  spaces-none old new number answer status is why = absurd why

  -- a step of the spacer that is held
  pub spaces : (old : Held) (before after : HeldSpacer) (t : Tick) (result : Option SpaceStep)
      → old ≡ Spacer before → StepsOrFull spacers before after t result
      → IfOk (ok_or result Is.Full) (SpacesTick spacers (Some old) (Some (Spacer after)) t)
  spaces old before after t (Some step) is steps = record {
    before = before;
    after = after;
    old_is = ap (λ h. Some h) is;
    new_is = refl;
    steps = steps;
  }
  spaces old before after t None is full = tt

  pub spaces-full : (old : Held) (before after : HeldSpacer) (t : Tick)
      (result : Option SpaceStep) → old ≡ Spacer before
      → StepsOrFull spacers before after t result
      → IfErr (ok_or result Is.Full)
      (λ why. (Spacer after ≡ old) × SpacesNoTick (Some old) why)
  spaces-full old before after t (Some step) is steps = tt
  spaces-full old before after t None is full = (
    ap (λ s. Spacer s) full.1 ∙ sym is,
    (before, ap (λ h. Some h) is, full.0),
  )
