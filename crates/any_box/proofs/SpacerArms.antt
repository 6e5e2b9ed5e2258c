-- What a step does to a spacer, for each of the four kinds.
use Rattle.any_box.specs.declared.defined.DefinedSpacer.{Ghosts as DefinedSpacer}
use Rattle.any_box.specs.{Spacers.SpacerStepsOn, declared.any_box.AnySpacer.AnySpacer}
use Rattle.line_spacer.specs.declared.spacer.SpaceStep.{SpaceStep}
use Rattle.std.proofs.Common.{◌≡◌, sym, subst}
use Rattle.yasir_ticks.specs.declared.tick.Tick.{Tick}

pub steps-at : (spacers : DefinedSpacer AnySpacer)
    (old same new : AnySpacer) (t : Tick) (step : SpaceStep) → old ≡ same
    → SpacerStepsOn spacers same new t step → SpacerStepsOn spacers old new t step
steps-at spacers old same new t step is steps =
    subst (λ spacer. SpacerStepsOn spacers spacer new t step) (sym is) steps
