use Rattle.yasir_ticks.proofs.Feeding.{ended_right, ended_refused}
use Rattle.yasir_ticks.proofs.reader.TickReader.finish.Goals as goal

pub returns-clause-right : goal.returns-clause-right
returns-clause-right c = λ marks text stood. ended_right _ marks text stood _ c.stop.ensures.stop

pub returns-clause-refused : goal.returns-clause-refused
returns-clause-refused c = λ marks text stood.
    ended_refused _ marks text stood _ c.stop.ensures.stop
