use Rattle.yasir_io.proofs.OutputLemmas.{always_on_err}
use Rattle.line_texts.proofs.line_room.LineRoom.drain.Goals as goal

pub returns-in_err-write_all-clause-err : goal.returns-in_err-write_all-clause-err
returns-in_err-write_all-clause-err g c = always_on_err c.from_residual.result
    (rw c.as_slice.ensures at c.in_err-write_all.ensures.err)

pub returns-clause-ok : goal.returns-clause-ok
returns-clause-ok g c = rw c.as_slice.ensures at c.in_ok-write_all.ensures.ok
