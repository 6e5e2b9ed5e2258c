use Rattle.std.proofs.Common.{arith}
use Rattle.yasir_ticks.proofs.{Readers.step_refused, Steps.refuses_percent}
use Rattle.yasir_ticks.proofs.reader.TickReader.begin_mark.Goals as goal

pub returns-else-self-gt0 : goal.returns-else-self-gt0
returns-else-self-gt0 c =
    step_refused _ _ _ _ _ _ c.requires c.refuse.ensures.err c.refuse.ensures.place
    c.refuse.ensures.line (refuses_percent _ _ (omega (arith, c.if-self-gt0.false)))
