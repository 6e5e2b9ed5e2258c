use Rattle.line_texts.proofs.Sending.{always_on_ok, room_handed}
use Rattle.std.proofs.Common.{rules, refl, inl, inr}
use Rattle.std.proofs.lemmas.Result.{on_ok_weaker, on_err_weaker}
use Rattle.yasir_io.proofs.OutputLemmas.{always_on_err, nothing_written, printed}
use Rattle.yasir_io.specs.TextBuffer.{waiting_bytes}
use Rattle.line_texts.proofs.texts.Texts.hand_out.Goals as goal

pub returns-in_err-drain : goal.returns-in_err-drain
returns-in_err-drain g c = record {
  writer = refl;
  no_ticks = search rules;
  no_notes = search rules;
  room = search rules;
  all = search rules;
  part = always_on_err c.from_residual.result (inl (
    refl,
    c.in_err-drain.ensures.err
        _ _ (nothing_written (g.L.Sink.held c.args.log.now) (waiting_bytes c.args.self.now.notes)),
  ));
  writes = record { cause = search rules; flushes = search rules };
}

pub returns : goal.returns
returns g c =
    let noted = printed _ _ _ (c.in_ok-drain.ensures.ok
    _ _ (nothing_written (g.L.Sink.held c.args.log.now) (waiting_bytes c.args.self.now.notes))) in
    record {
      writer = refl;
      no_ticks = c.drain-2.ensures.empty;
      no_notes = always_on_ok c.drain-2.result c.in_ok-drain.ensures.empty;
      room = room_handed c.drain-2.result _ c.drain-2.ensures.empty
          (always_on_ok c.drain-2.result c.in_ok-drain.ensures.empty);
      all = on_ok_weaker c.drain-2.result (λ goes. record { ticks = goes; notes = noted })
          c.drain-2.ensures.ok;
      part = on_err_weaker c.drain-2.result (λ stops. inr (stops, noted)) c.drain-2.ensures.err;
      writes = record { cause = search rules; flushes = search rules };
    }
