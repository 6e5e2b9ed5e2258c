-- What the steps of a box return for a run of ticks into which no note falls.
use Rattle.std.specs.Prelude.{◌≡◌, List, ◌++◌}
use Rattle.yasir_ticks.specs.declared.tick.Tick.{Tick}
use Rattle.frame_ending.specs.Walk.{Walker, notes_of, line_of}
use Rattle.frame_ending.specs.Answers.{told_notes}

-- Holds if, after these ticks of a line, the steps of this run return these ticks of the other
-- line, and no note falls into them.
pub record AnswersRun {S N A : Type 0} (w : Walker S N) (note_of : N → A) (begun : S)
    (line run answer : List Tick) : Type 0 where
  pub ticks : line_of w begun (line ++ run) ≡ line_of w begun line ++ answer
  pub notes : told_notes note_of (notes_of w begun (line ++ run))
      ≡ told_notes note_of (notes_of w begun line)
