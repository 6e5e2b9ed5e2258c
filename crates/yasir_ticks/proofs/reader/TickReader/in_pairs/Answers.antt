use Rattle.std.proofs.Common.{is_some, ap, sym, arith}
use Rattle.yasir_ticks.proofs.{Readers.step_refused, Steps.refuses_long}
use Rattle.yasir_ticks.proofs.reader.TickReader.in_pairs.Goals as goal

pub returns-then-is_full : goal.returns-then-is_full
returns-then-is_full c =
    step_refused _ _ _ _ _ _ c.requires.place c.refuse.ensures.err c.refuse.ensures.place
    c.refuse.ensures.line
    (refuses_long _ _ _ (ap is_some (sym c.in-Some.ensures.value)) (grind arith))
