use Rattle.yasir_ticks.proofs.WholeLines.{line_behind, line_ended}
use Rattle.yasir_ticks.proofs.reader.TickReader.take_usual.Goals as goal

pub returns-in-Some-clause-fed : goal.returns-in-Some-clause-fed
returns-in-Some-clause-fed c =
    line_ended _ _ c.args.bytes.now _ _ (line_behind _ _ c.args.bytes.now _ c.in-Some.ensures.whole)
