use Rattle.command_ends.proofs.{EndCauses.sink_cause_of_whole, FlushLaws.flushes_of_whole}
use Rattle.line_commands.proofs.OverInput.{no_stop, answer_ok, fails_over, writes_over}
use Rattle.line_commands.proofs.OverInput.{is_at_write}
use Rattle.line_commands.proofs.{FrontsSent.fronts_of_all, SpaceEnds.nothing_sends, SpaceEnds.has_memory}
use Rattle.line_commands.specs.{SpacedTexts.spaced_texts, SpacesLine.TakesNothing}
use Rattle.line_commands.specs.SpacesLine.{space_rest}
use Rattle.line_texts.specs.Sending.{TextsHaveSent, HasSentFronts}
use Rattle.std.proofs.Common.{◌∙◌, ◌⊎◌, ap, inl, refl, subst}
use Rattle.tick_drive.specs.Consumers.{is_write_fault}
use Rattle.yasir_io.{proofs.FlushLaws.none_flushed_then, specs.Causes.Rose}
use Rattle.line_commands.proofs.space_command.space_frames.Goals as goal

pub drive_spacer-end-requires-clause-nothing : goal.drive_spacer-end-requires-clause-nothing
drive_spacer-end-requires-clause-nothing g c = nothing_sends g.B.LineSpacer.reads g.B.LineSpacer.gap
    c.new-texts.result c.new-texts.ensures.written c.new-texts.ensures.ticks
    c.new-texts.ensures.notes

pub end_run-requires : goal.end_run-requires
end_run-requires g c = no_stop c.drive_spacer-end.result c.in_default.not-Stopped

pub returns-in-Stopped-clause-spaces : goal.returns-in-Stopped-clause-spaces
returns-in-Stopped-clause-spaces g c =
    (is_at_write space_rest _ _ (HasSentFronts (spaced_texts g.B.LineSpacer.reads
    g.B.LineSpacer.gap) _ _) c.in-Stopped.field-0 c.in-Stopped.ensures.driven).1

pub returns-in-Stopped-clause-sinks : goal.returns-in-Stopped-clause-sinks
returns-in-Stopped-clause-sinks g c =
    let why = (is_at_write space_rest _ _ (HasSentFronts (spaced_texts g.B.LineSpacer.reads
    g.B.LineSpacer.gap) _ _) c.in-Stopped.field-0 c.in-Stopped.ensures.driven).0 in
    c.in-Stopped.ensures.sinks.failed (rw why refl)

pub returns : goal.returns
returns g c =
    let driven = c.drive_spacer-end.ensures in
    let other = no_stop c.drive_spacer-end.result c.in_default.not-Stopped in
    let calm = ap is_write_fault (answer_ok c.drive_spacer-end.result other) in
    let out2 = g.O.Sink.faults c.finish.new.out in
    let log2 = g.L.Sink.faults c.finish.new.log in
    record {
      spaces = fails_over space_rest _ _ _ _ c.drive_spacer-end.result other driven.driven
          (HasSentFronts (spaced_texts g.B.LineSpacer.reads g.B.LineSpacer.gap) _ _)
          (λ line sends. c.in-Err-finish.ensures.err _ _ line sends);
      untouched = λ none. cc;
      input = driven.falls;
      sinks = subst (λ n. Rose n out2 ⊎ Rose (g.L.Sink.faults c.args.log.now) log2)
          (driven.sinks.out_same calm)
          (subst (λ n. Rose (g.O.Sink.faults c.drive_spacer-end.new.out) out2 ⊎ Rose n log2)
          (driven.sinks.log_same calm) c.in-Err-finish.ensures.cause.failed);
      flushes = inl (none_flushed_then g.O.Sink g.L.Sink _ _ _ _ _ _ driven.flushes
          c.in-Err-finish.ensures.flushes);
    }

pub returns-in-Ok-finish : goal.returns-in-Ok-finish
returns-in-Ok-finish g c =
    let driven = c.drive_spacer-end.ensures in
    let end = c.drive_spacer-end.result in
    let other = no_stop c.drive_spacer-end.result c.in_default.not-Stopped in
    let calm = ap is_write_fault (answer_ok c.drive_spacer-end.result other) in
    let sent = c.in-Ok-finish.ensures in
    let ended = c.end_run.ensures in
    record {
      spaces = rw (ended.out, ended.log) (writes_over space_rest _ _ _ _ c.drive_spacer-end.result
          other driven.driven
          (TextsHaveSent (spaced_texts g.B.LineSpacer.reads g.B.LineSpacer.gap) _ _)
          (HasSentFronts (spaced_texts g.B.LineSpacer.reads g.B.LineSpacer.gap) _ _)
          (TakesNothing (spaced_texts g.B.LineSpacer.reads g.B.LineSpacer.gap) _ _ _ _)
          (λ line sends. sent.ok _ _ line sends) (λ line sends. fronts_of_all _ _ _ line (sent.ok _ _ line sends))
          c.end_run.result ended.status);
      untouched = λ none. absurd (has_memory c.drive_spacer-end.result other c.end_run.result
          ended.status none);
      input = ended.input _ _ (driven.read other);
      sinks = sink_cause_of_whole _ _ _ _ _ _ (sent.cause.out_same ∙ driven.sinks.out_same calm)
          (sent.cause.log_same ∙ driven.sinks.log_same calm) c.end_run.result ended.sinks;
      flushes = flushes_of_whole g.O.Sink g.L.Sink _ _ _ _ _ _
          (none_flushed_then g.O.Sink g.L.Sink _ _ _ _ _ _ driven.flushes sent.flushes)
          (sent.cause.log_same ∙ driven.sinks.log_same calm) c.end_run.result ended.flushes;
    }
