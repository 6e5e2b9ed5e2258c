use Rattle.yasir_ticks.proofs.WholeLines.{feeds_ok, feeds_err}
use Rattle.yasir_ticks.proofs.reader.TickReader.step_line.Goals as goal

pub returns-in-Ok-clause-fed : goal.returns-in-Ok-clause-fed
returns-in-Ok-clause-fed c = feeds_ok _ _ _ _ c.in-Ok.ensures.step

pub returns-in-Err-clause-fed : goal.returns-in-Err-clause-fed
returns-in-Err-clause-fed c = feeds_err _ _ _ _ c.in-Err.ensures.step
