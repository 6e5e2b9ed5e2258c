use Rattle.{std.proofs.Common.arith, yasir_ticks.proofs.Readers.stops_right}
use Rattle.yasir_ticks.proofs.reader.TickReader.stop.Goals as goal

pub returns-in-Ok-2-clause-stop : goal.returns-in-Ok-2-clause-stop
returns-in-Ok-2-clause-stop c =
    stops_right _ _ c.in-Ok.field-0 c.in-Ok.ensures.content c.run.ensures.items
    c.run.ensures.nothing (omega (arith, c.if-self-gt0.false))
