use Rattle.yasir_ticks.proofs.{Readers.step_refused, Steps.refuses_after_return}
use Rattle.yasir_ticks.proofs.reader.TickReader.after_return.Goals as goal

pub returns-else-b-eq10 : goal.returns-else-b-eq10
returns-else-b-eq10 c =
    step_refused _ _ _ _ _ _ c.requires.place c.refuse.ensures.err c.refuse.ensures.place
    c.refuse.ensures.line (refuses_after_return _ _ _ _ c.if-b-eq10.false)
