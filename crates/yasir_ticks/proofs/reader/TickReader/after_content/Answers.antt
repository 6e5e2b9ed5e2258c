use Rattle.std.proofs.Common.{refl, arith}
use Rattle.yasir_ticks.proofs.{Readers.step_refused, Steps.refuses_foreign}
use Rattle.yasir_ticks.proofs.reader.TickReader.after_content.Goals as goal

pub returns-in_default : goal.returns-in_default
returns-in_default c =
    step_refused _ _ _ _ _ _ refl c.refuse.ensures.err c.refuse.ensures.place c.refuse.ensures.line
    (refuses_foreign _ _ _ _ c.requires.foreign (grind arith) (grind arith))
