use Rattle.yasir_io.proofs.Telling.{told_kept}
use Rattle.yasir_io.proofs.edge.WriterSinkSink.flush.Goals as goal

pub returns-in-Ok-clause-same : goal.returns-in-Ok-clause-same
returns-in-Ok-clause-same g c =
    told_kept _ _ (g.met.W.TellsHeld.knows_held _ _) c.in-Ok.ensures.bytes

pub returns-in-Err-clause-same : goal.returns-in-Err-clause-same
returns-in-Err-clause-same g c =
    told_kept _ _ (g.met.W.TellsHeld.knows_held _ _) c.in-Err.ensures.bytes
