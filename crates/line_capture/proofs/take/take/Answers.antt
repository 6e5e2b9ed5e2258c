use Rattle.line_capture.proofs.RunEnds.{read_fault_is}
use Rattle.line_capture.proofs.take.take.Goals as goal

pub returns-clause-read_failed : goal.returns-clause-read_failed
returns-clause-read_failed g c = λ is.
    let e = read_fault_is _ _ _ _ _ _ _ c.take_read.ensures.takes is in
    rw e at c.in-Ok.ensures.failed
