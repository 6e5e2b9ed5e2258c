-- What a handle holds, a box of a link or a spacer or nothing, and what their calls do.
use Rattle.any_box.specs.declared.any_box.AnySpacer.{AnySpacer}
use Rattle.any_box.specs.declared.defined.DefinedSpacer.{Ghosts as DefinedSpacer}
use Rattle.any_box.specs.declared.any_box.AnyBox.{AnyBox}
use Rattle.any_box.specs.declared.defined.DefinedBox.{Ghosts as DefinedBox}
use Rattle.std.specs.Prelude.{◌≡◌, ℕ, ◌<◌, ◌≤◌, ◌⊎◌, List, [], length, take, Option, Some, None}
use Rattle.yasir_ticks.specs.declared.TheConstants.{MAX_TICKS}
use Rattle.yasir_ticks.specs.declared.tick.Tick.{Tick}
use Rattle.frame_ending.specs.Answered.{answered}
use Rattle.line_spacer.specs.declared.spacer.SpaceStep.{SpaceStep}
use Rattle.any_box.specs.Held.{floor_held, ticks_held, StepsHeld, TakesHeld}
use Rattle.any_box.specs.declared.held_box.HeldBox.{HeldBox}
use Rattle.any_box.specs.declared.held_box.HeldStep.{HeldStep}
use Rattle.any_box.specs.HeldSpacers.{spacer_ticks, StepsSpacer}
use Rattle.any_box.specs.declared.held_spacer.HeldSpacer.{HeldSpacer}
use Rattle.yasir_c.specs.Withholding.{ready, withholding, stopped, after_step}
use Rattle.yasir_c.specs.declared.answer.Answer.{Answer}
use Rattle.yasir_c.specs.declared.held.Held.{Held}
use Rattle.yasir_c.specs.declared.held.Held.TheVariants.{LineBox, Spacer}
use Rattle.yasir_c.specs.declared.status.Status.{Status}
use Rattle.yasir_c.specs.declared.status.Status.TheVariants as Is
use Rattle.yasir_c.specs.declared.withholding.WithholdingBox.{WithholdingBox}

-- Holds if a handle holds something.
abbrev pub HoldsOne : Option Held → Type 0
HoldsOne value = (held : Held) × (value ≡ Some held)

-- Holds if a handle holds nothing, or a spacer.
abbrev pub HoldsNoBox : Option Held → Type 0
HoldsNoBox value = (line_box : WithholdingBox) → ¬ (value ≡ Some (LineBox line_box))

-- Holds if a handle holds nothing, or a box.
abbrev pub HoldsNoSpacer : Option Held → Type 0
HoldsNoSpacer value = (spacer : HeldSpacer) → ¬ (value ≡ Some (Spacer spacer))

-- Holds if a handle holds a box that takes the next tick.
abbrev pub HoldsReady : Option Held → Type 0
HoldsReady value = (held : HeldBox) × (value ≡ Some (LineBox (ready held)))

-- Holds if a handle holds a box that withholds an answer.
abbrev pub HoldsWithheld : Option Held → Type 0
HoldsWithheld value =
    (held : HeldBox) × (answer : Answer) × (value ≡ Some (LineBox (withholding answer held)))

-- Holds if a handle holds a box that was stopped.
abbrev pub HoldsStopped : Option Held → Type 0
HoldsStopped value = (held : HeldBox) × (value ≡ Some (LineBox (stopped held)))

-- Holds if a handle holds a box, or a spacer, that has taken as many ticks as it can take.
abbrev pub HoldsFull : Option Held → Type 0
HoldsFull value =
    (held : HeldBox) × (value ≡ Some (LineBox (ready held))) × (ticks_held held ≡ MAX_TICKS)

abbrev pub HoldsFullSpacer : Option Held → Type 0
HoldsFullSpacer value =
    (held : HeldSpacer) × (value ≡ Some (Spacer held)) × (spacer_ticks held ≡ MAX_TICKS)

-- the last number that the box in a handle used, or 0 if there is no box
abbrev pub floor_told : Option Held → ℕ
floor_told None = 0
floor_told (Some (LineBox line_box)) = floor_held line_box.line_box
floor_told (Some (Spacer spacer)) = 0

-- Why the box in a handle takes no tick, by the status.
abbrev pub TakesNoTick : Option Held → Status → Type 0
TakesNoTick value Is.Empty = HoldsNoBox value
TakesNoTick value Is.Waiting = HoldsWithheld value
TakesNoTick value Is.Stopped = HoldsStopped value
TakesNoTick value Is.Full = HoldsFull value
TakesNoTick value status = ⊥

-- Holds if the box in a handle has returned the answer that it withheld, and takes the next tick.
pub record HandleHandsOut (old new : Option Held) (answer : Answer) : Type 0 where
  pub held : HeldBox
  pub old_is : old ≡ Some (LineBox (withholding answer held))
  pub new_is : new ≡ Some (LineBox (ready held))

-- Holds if the box in a handle withheld an answer, and was stopped.
pub record HandleStops (old new : Option Held) : Type 0 where
  pub held : HeldBox
  pub answer : Answer
  pub old_is : old ≡ Some (LineBox (withholding answer held))
  pub new_is : new ≡ Some (LineBox (stopped held))

-- Holds if this number is neither 0 nor 1.
abbrev pub TellsNothing : ℕ → Type 0
TellsNothing ok = 1 < ok

-- Why the box in a handle returns no answer that it withheld, by the status, where `ok` is what C
-- tells it of the number: the box is stopped, or nothing changes.
abbrev pub HandsNothing : ℕ → Option Held → Option Held → Status → Type 0
HandsNothing ok old new Is.Stopped =
    ((ok ≡ 0) × HandleStops old new) ⊎ ((new ≡ old) × (ok ≤ 1) × HoldsStopped old)
HandsNothing ok old new Is.BadArgument = (new ≡ old) × (TellsNothing ok ⊎ HoldsReady old)
HandsNothing ok old new Is.Empty = (new ≡ old) × HoldsNoBox old
HandsNothing ok old new status = ⊥

-- What the boxes are by the definitions.
module _ (boxes : DefinedBox AnyBox) where
  -- Holds if the box in a handle has taken a tick by this step. If the caller must write something,
  -- the box then withholds the answer of the step.
  pub record HandleTakesTick (old new : Option Held) (t : Tick) (step : HeldStep) : Type 0 where
    pub before : HeldBox
    pub after : HeldBox
    pub old_is : old ≡ Some (LineBox (ready before))
    pub new_is : new ≡ Some (LineBox (after_step step after))
    pub steps : StepsHeld boxes before after t step

  -- Holds if the box in a handle has taken the first ticks of a run, `taken` of them, and returned
  -- these bytes, one for each, or silence.
  pub record TakesFront (old new : Option Held) (run : List Tick) (sent : List ℕ) (taken : ℕ)
      : Type 0 where
    pub before : HeldBox
    pub after : HeldBox
    pub old_is : old ≡ Some (LineBox (ready before))
    pub new_is : new ≡ Some (LineBox (ready after))
    pub within : taken ≤ length run
    pub takes : TakesHeld boxes before after (take taken run) (answered taken sent)

  -- Holds if the box has done so, or if nothing was taken and nothing has changed.
  abbrev pub HandleTakesRun : Option Held → Option Held → List Tick → List ℕ → ℕ → Type 0
  HandleTakesRun old new run sent taken =
      TakesFront old new run sent taken ⊎ ((taken ≡ 0) × (sent ≡ []) × (new ≡ old))

-- What the spacers are by the definitions.
module _ (spacers : DefinedSpacer AnySpacer) where
  -- Holds if the spacer in a handle has taken a tick by this step.
  pub record SpacesTick (old new : Option Held) (t : Tick) (step : SpaceStep) : Type 0 where
    pub before : HeldSpacer
    pub after : HeldSpacer
    pub old_is : old ≡ Some (Spacer before)
    pub new_is : new ≡ Some (Spacer after)
    pub steps : StepsSpacer spacers before after t step

-- Why the spacer in a handle takes no tick, by the status.
abbrev pub SpacesNoTick : Option Held → Status → Type 0
SpacesNoTick value Is.Empty = HoldsNoSpacer value
SpacesNoTick value Is.Full = HoldsFullSpacer value
SpacesNoTick value status = ⊥
