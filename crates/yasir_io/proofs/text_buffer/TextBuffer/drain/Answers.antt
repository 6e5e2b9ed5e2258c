use Rattle.yasir_io.proofs.OutputLemmas.{always_on_err, all_written, prefix_written}
use Rattle.yasir_io.proofs.text_buffer.TextBuffer.drain.Goals as goal

pub returns-in_err-write_all-clause-err : goal.returns-in_err-write_all-clause-err
returns-in_err-write_all-clause-err g c = always_on_err c.from_residual.result
    (λ start text so_far. prefix_written start _ _ _ text so_far
    (rw c.as_slice.ensures.value at c.in_err-write_all.ensures.err))

pub returns-clause-ok : goal.returns-clause-ok
returns-clause-ok g c start text so_far =
    all_written start _ _ _ text so_far
    (rw c.as_slice.ensures.value at c.in_ok-write_all.ensures.ok)
