-- Runs that a box takes at once.
use Rattle.link_box.specs.{Runs.HasTakenRun, Runs.TakesRun, Walking.Walking}
use Rattle.link_format.specs.Setup.{Setup}
use Rattle.std.proofs.Common.{◌≡◌, ◌∙◌, ℕ, List, [], ◌++◌, ap, subst, append-nil}
use Rattle.yasir_ticks.specs.declared.tick.Tick.{Tick}

module _ {X A : Type 0} (walking : Walking A) (standing : X → ℕ → Setup → List Tick → Type 0)
    (old new : X) where
  -- an equal run that is answered with equal ticks
  pub takes-as : (run answer front told : List Tick) → run ≡ front → answer ≡ told
      → TakesRun walking standing old new run answer
      → TakesRun walking standing old new front told
  takes-as run answer front told run_is answer_is takes = λ last setup line before.
      subst (λ r. HasTakenRun walking standing new last setup line r told) run_is
      (subst (λ a. HasTakenRun walking standing new last setup line run a) answer_is
      (takes last setup line before))

  -- a run after one of no tick
  pub takes-behind : (mid : X) (none nothing run answer : List Tick) → none ≡ []
      → TakesRun walking standing old mid none nothing
      → TakesRun walking standing mid new run answer
      → TakesRun walking standing old new run answer
  takes-behind mid none nothing run answer is first then = λ last setup line before.
      then last setup line (subst (λ l. standing mid last setup l)
      (ap (λ r. line ++ r) is ∙ append-nil line) (first last setup line before).stands)
