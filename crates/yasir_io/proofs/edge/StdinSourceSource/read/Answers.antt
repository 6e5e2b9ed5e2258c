use Rattle.yasir_io.proofs.Telling.{told_taken, told_kept}
use Rattle.yasir_io.proofs.edge.StdinSourceSource.read.Goals as goal

pub returns-in-Ok-clause-bytes : goal.returns-in-Ok-clause-bytes
returns-in-Ok-clause-bytes g c =
    told_taken _ _ _ (g.met.I.TellsLeft.knows_left _ _) c.in-Ok.ensures.bytes.0

pub returns-in-Err-clause-err : goal.returns-in-Err-clause-err
returns-in-Err-clause-err g c =
    told_kept _ _ (g.met.I.TellsLeft.knows_left _ _) c.in-Err.ensures.bytes
