-- A box that withholds what a step returns if the step uses a number: until C has confirmed the
-- number, or for ever.
use Rattle.std.specs.Prelude.{Option, Some, None}
use Rattle.any_box.specs.declared.held_box.HeldBox.{HeldBox}
use Rattle.any_box.specs.declared.held_box.HeldStep.{HeldStep}
use Rattle.any_box.specs.declared.owed.Commit.{Commit}
use Rattle.yasir_c.specs.Answers.{answer_of}
use Rattle.yasir_c.specs.declared.answer.Answer.{Answer}
use Rattle.yasir_c.specs.declared.withholding.Readiness.{Readiness}
use Rattle.yasir_c.specs.declared.withholding.Readiness.TheVariants.{Ready, Withholds, Stopped}
use Rattle.yasir_c.specs.declared.withholding.WithholdingBox.{WithholdingBox}

-- a box that takes the next tick, one that withholds this answer, and one that was stopped
abbrev pub ready : HeldBox → WithholdingBox
ready held = record { line_box = held; readiness = Ready }

abbrev pub withholding : Answer → HeldBox → WithholdingBox
withholding answer held = record { line_box = held; readiness = Withholds answer }

abbrev pub stopped : HeldBox → WithholdingBox
stopped held = record { line_box = held; readiness = Stopped }

-- a box after a step: it withholds the answer of the step if the caller must write something
abbrev pub readiness_after : Option Commit → Answer → Readiness
readiness_after None answer = Ready
readiness_after (Some commit) answer = Withholds answer

abbrev pub after_step : HeldStep → HeldBox → WithholdingBox
after_step step held =
    record { line_box = held; readiness = readiness_after step.commit (answer_of step) }
