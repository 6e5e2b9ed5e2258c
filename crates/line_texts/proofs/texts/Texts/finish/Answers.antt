use Rattle.line_texts.proofs.{LineWriters.ended, Sending.buffered_more, Sending.ends_all}
use Rattle.line_texts.{proofs.Sending.ends_part, specs.Texts.waiting_in, specs.Writer.unfilled}
use Rattle.std.proofs.Common.{◌++◌, [], refl, inl, inr}
use Rattle.std.proofs.lemmas.Result.{on_ok_weaker, on_err_weaker}
use Rattle.yasir_io.proofs.OutputLemmas.{always_on_err, nothing_written, printed, all_written}
use Rattle.yasir_io.proofs.OutputLemmas.{prefix_written, prefix_of_more}
use Rattle.{yasir_io.specs.TextBuffer.waiting_bytes, yasir_ticks.specs.CanonicalText.canonical_text}
use Rattle.line_texts.proofs.texts.Texts.finish.Goals as goal

pub returns-in_err-drain-clause-err : goal.returns-in_err-drain-clause-err
returns-in_err-drain-clause-err g c = always_on_err c.from_residual.result (λ made before line sends.
    let last = canonical_text (unfilled c.args.self.writer ++ []) in
    ends_part made line (waiting_in c.args.self) before _ _ sends last
    (ended c.args.self.writer last refl _ sends.text.answered sends.text.written)
    (inl (
      refl,
      c.in_err-drain.ensures.err _ _ (nothing_written (g.L.Sink.held c.args.log.now)
          (waiting_bytes c.args.self.notes)),
    )))

pub returns-in_err-make_room-clause-err : goal.returns-in_err-make_room-clause-err
returns-in_err-make_room-clause-err g c = always_on_err c.from_residual-in_err-make_room.result
    (λ made before line sends.
    let last = canonical_text (unfilled c.args.self.writer ++ []) in
    ends_part made line (waiting_in c.args.self) before _ _ sends last
    (ended c.args.self.writer last refl _ sends.text.answered sends.text.written)
    (inr (
      prefix_of_more _ _ c.args.self.ticks.items last c.in_err-make_room.ensures.err,
      printed _ _ _ (c.in_ok-drain.ensures.ok _ _ (nothing_written (g.L.Sink.held c.args.log.now)
          (waiting_bytes c.args.self.notes))),
    )))

pub returns-clause-ok : goal.returns-clause-ok
returns-clause-ok g c = on_ok_weaker c.drain-2.result (λ drained made before line sends.
    let last = c.finish.ensures.line in
    ends_all made line (waiting_in c.args.self) before _ _ sends last
    (c.finish.ensures.whole _ sends.text.answered sends.text.written) (record {
      ticks = printed _ _ _ (all_written _ _ _ _ _ (buffered_more _ _ c.args.self.ticks.items
          c.make_room.new.self.items last _ c.finish.ensures.added c.in_ok-make_room.ensures.ok)
          drained);
      notes = printed _ _ _ (c.in_ok-drain.ensures.ok
          _ _ (nothing_written (g.L.Sink.held c.args.log.now) (waiting_bytes c.args.self.notes)));
    })) c.drain-2.ensures.ok

pub returns-clause-err : goal.returns-clause-err
returns-clause-err g c = on_err_weaker c.drain-2.result (λ failed made before line sends.
    let last = c.finish.ensures.line in
    ends_part made line (waiting_in c.args.self) before _ _ sends last
    (c.finish.ensures.whole _ sends.text.answered sends.text.written) (inr (
      prefix_written _ _ _ _ _ (buffered_more _ _ c.args.self.ticks.items
          c.make_room.new.self.items last _ c.finish.ensures.added c.in_ok-make_room.ensures.ok) failed,
      printed _ _ _ (c.in_ok-drain.ensures.ok
          _ _ (nothing_written (g.L.Sink.held c.args.log.now) (waiting_bytes c.args.self.notes))),
    ))) c.drain-2.ensures.err
