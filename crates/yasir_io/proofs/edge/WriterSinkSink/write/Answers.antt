use Rattle.std.proofs.Common.{arith}
use Rattle.yasir_io.proofs.Telling.{told_added, told_none_added, told_kept}
use Rattle.yasir_io.proofs.edge.WriterSinkSink.write.Goals as goal

pub returns-in-Ok-eq0-clause-err : goal.returns-in-Ok-eq0-clause-err
returns-in-Ok-eq0-clause-err g c =
    told_none_added _ _ c.in-Ok-eq0.field-0 c.args.piece.now (g.met.W.TellsHeld.knows_held _ _)
    (omega arith) c.in-Ok-eq0.ensures.bytes

pub returns-in-Ok-clause-bytes : goal.returns-in-Ok-clause-bytes
returns-in-Ok-clause-bytes g c =
    told_added _ _ _ (g.met.W.TellsHeld.knows_held _ _) c.in-Ok.ensures.bytes

pub returns-in-Err-clause-err : goal.returns-in-Err-clause-err
returns-in-Err-clause-err g c =
    told_kept _ _ (g.met.W.TellsHeld.knows_held _ _) c.in-Err.ensures.bytes
