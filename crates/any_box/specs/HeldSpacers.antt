-- A spacer that counts its ticks: how it begins, and what a step does.
use Rattle.any_box.specs.declared.any_box.AnySpacer.{AnySpacer}
use Rattle.any_box.specs.declared.defined.DefinedSpacer.{Ghosts as DefinedSpacer}
use Rattle.std.specs.Prelude.{◌≡◌, ℕ, ◌+◌, [], Option, Some, None}
use Rattle.yasir_ticks.specs.declared.TheConstants.{MAX_TICKS}
use Rattle.yasir_ticks.specs.declared.tick.Tick.{Tick}
use Rattle.line_spacer.specs.declared.spacer.SpaceStep.{SpaceStep}
use Rattle.any_box.specs.Spacers.{spacer_kind, SpacerStepsOn}
use Rattle.any_box.specs.declared.kind.SpacerKind.{SpacerKind}
use Rattle.any_box.specs.declared.held_spacer.HeldSpacer.{HeldSpacer}

-- how many ticks it has taken
abbrev pub spacer_ticks : HeldSpacer → ℕ
spacer_ticks held = held.ticks

module _ (spacers : DefinedSpacer AnySpacer) where
  -- Holds for a spacer of this kind, with room for `room` frames to wait, that has taken no tick.
  pub record BeginsSpacer (kind : SpacerKind) (room : ℕ) (held : HeldSpacer) : Type 0 where
    pub none_taken : spacer_ticks held ≡ 0
    pub kind_is : spacer_kind held.spacer ≡ kind
    pub stands : spacers.stands room held.spacer []

  -- Holds if a step takes tick `t` and returns the next tick of the spaced line, whatever line the
  -- spacer had taken.
  pub record StepsSpacer (old new : HeldSpacer) (t : Tick) (step : SpaceStep) : Type 0 where
    pub counted : spacer_ticks new ≡ spacer_ticks old + 1
    pub steps : SpacerStepsOn spacers old.spacer new.spacer t step

  -- Holds if a step takes the tick, or if the spacer had taken as many ticks as it can take and is
  -- as it was.
  abbrev pub StepsOrFull : HeldSpacer → HeldSpacer → Tick → Option SpaceStep → Type 0
  StepsOrFull old new t (Some step) = StepsSpacer old new t step
  StepsOrFull old new t None = (spacer_ticks old ≡ MAX_TICKS) × (new ≡ old)
