use Rattle.std.proofs.lemmas.Result.{on_ok_weaker, on_err_weaker}
use Rattle.yasir_io.proofs.OutputLemmas.{always_on_err, prefix_of_more, piece_written, piece_prefix}
use Rattle.yasir_io.proofs.text_buffer.TextBuffer.push_full.Goals as goal

pub returns-in_err-drain-clause-err : goal.returns-in_err-drain-clause-err
returns-in_err-drain-clause-err g c = always_on_err c.from_residual.result
    (λ start text so_far. prefix_of_more start _ text
    _ (c.in_err-drain.ensures.err start text so_far))

pub returns-clause-ok : goal.returns-clause-ok
returns-clause-ok g c = on_ok_weaker c.write_all.result
    (λ written start text so_far. piece_written start _ _ text
    _ _ (c.in_ok-drain.ensures.ok start text so_far) written
    c.in_ok-drain.ensures.empty)
    c.write_all.ensures.ok

pub returns-clause-err : goal.returns-clause-err
returns-clause-err g c = on_err_weaker c.write_all.result
    (λ got start text so_far. piece_prefix start _ _ text
    _ (c.in_ok-drain.ensures.ok start text so_far) got)
    c.write_all.ensures.err
