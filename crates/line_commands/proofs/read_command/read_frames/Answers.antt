use Rattle.std.proofs.Common.{refl, ◌∙◌, inl, [], sym, append-nil}
use Rattle.line_commands.proofs.OverInput.{no_stop, answer_ok, fails_over, writes_over}
use Rattle.line_commands.proofs.read_command.read_frames.Goals as goal
use Rattle.line_commands.specs.PrintsFrames.{HasPrinted, HasPrintedFront, read_rest}
use Rattle.command_ends.specs.FrameLine.{frame_lines}
use Rattle.command_ends.proofs.EndCauses.{sink_cause_of_whole}
use Rattle.command_ends.proofs.FlushLaws.{flushes_of_whole}
use Rattle.yasir_io.proofs.OutputLemmas.{printed}

pub end_run-requires : goal.end_run-requires
end_run-requires g c = no_stop c.drive_frames-end.result c.in_default.not-Stopped

pub returns : goal.returns
returns g c =
    let driven = c.drive_frames-end.ensures in
    let other = no_stop c.drive_frames-end.result c.in_default.not-Stopped in
    let sink = rw (answer_ok c.drive_frames-end.result other) at driven.sink in record {
      frames = fails_over read_rest _ _ _ _ c.drive_frames-end.result other driven.driven
          (HasPrintedFront g.V.Device.reads _ _)
          (λ line lines. c.in-Err.ensures.err _ _ lines);
      log = refl;
      input = driven.read.never_falls;
      sinks = inl (rw (← sink.same) c.in-Err.ensures.cause.failed);
      flushes = inl (record {
        out = c.in-Err.ensures.flushes ∙ driven.flushes;
        log = refl;
      });
    }

pub returns-in-Ok : goal.returns-in-Ok
returns-in-Ok g c =
    let driven = c.drive_frames-end.ensures in
    let ended = c.end_run.ensures in
    let other = no_stop c.drive_frames-end.result c.in_default.not-Stopped in
    let sink = rw (answer_ok c.drive_frames-end.result other) at driven.sink in record {
      frames = rw ended.out (writes_over read_rest _ _ _ _ c.drive_frames-end.result other
          driven.driven (HasPrinted g.V.Device.reads _ _)
          (HasPrintedFront g.V.Device.reads _ _) (λ status. ⊥)
          (λ line lines. printed _ _ _ (c.in-Ok.ensures.ok _ _ lines)) (λ line lines. record {
            front = frame_lines (g.V.Device.reads line);
            rest = [];
            got = printed _ _ _ (c.in-Ok.ensures.ok _ _ lines);
            all = sym (append-nil _);
          })
          c.end_run.result ended.status);
      log = ended.log;
      input = ended.input _ _ driven.read;
      sinks = sink_cause_of_whole _ _ _ _ _ _ (c.in-Ok.ensures.cause.same ∙ sink.same) refl
          c.end_run.result ended.sinks;
      flushes = flushes_of_whole g.O.Sink g.L.Sink _ _ _ _ _ _ (record {
        out = c.in-Ok.ensures.flushes ∙ driven.flushes;
        log = refl;
      }) refl c.end_run.result ended.flushes;
    }
