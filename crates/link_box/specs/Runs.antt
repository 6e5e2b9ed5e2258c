-- A run of ticks that a box takes at once.
use Rattle.std.specs.Prelude.{ℕ, List, ◌++◌}
use Rattle.yasir_ticks.specs.declared.tick.Tick.{Tick}
use Rattle.frame_ending.specs.Runs.{AnswersRun}
use Rattle.link_format.specs.Setup.{Setup}
use Rattle.link_box.specs.Walking.{Walking}

-- `walking` is the walk of a box. `standing` holds of a box, the last number that it used, its
-- setup, and the line that it has taken.
module _ {X A : Type 0} (walking : Walking A) (standing : X → ℕ → Setup → List Tick → Type 0) where
  -- Holds if the box has taken this run after this line, and used no number. It has returned these
  -- ticks of the other line, and no note falls into them.
  pub record HasTakenRun (value : X) (last : ℕ) (setup : Setup) (line run answer : List Tick) :
      Type 0 where
    pub stands : standing value last setup (line ++ run)
    pub answers : AnswersRun (walking.walker setup) walking.brief (walking.begun setup) line run
        answer

  -- Holds if the box has taken this run as `HasTakenRun` says, whatever line it had taken.
  abbrev pub TakesRun : X → X → List Tick → List Tick → Type 0
  TakesRun old new run answer = (last : ℕ) (setup : Setup) (line : List Tick)
      → standing old last setup line → HasTakenRun new last setup line run answer
