use Rattle.yasir_ticks.proofs.{Readers.step_refused, Steps.refuses_zero}
use Rattle.yasir_ticks.proofs.reader.TickReader.after_minus.Goals as goal

pub returns-in-48 : goal.returns-in-48
returns-in-48 c =
    rw c.in-48.is (step_refused _ _ _ _ _ _ c.requires.place c.refuse.ensures.err
    c.refuse.ensures.place c.refuse.ensures.line (refuses_zero _ _))
