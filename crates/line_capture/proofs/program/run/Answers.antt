use Rattle.line_capture.proofs.{RunAble.able_after, RunEnds.no_text}
use Rattle.line_capture.specs.{Programs.CaptureDoes, Words.IsCaptureCommand}
use Rattle.line_capture.specs.Outcomes.{status_in}
use Rattle.line_capture.specs.UsageLines.{of_input, capture_fault_text}
use Rattle.command_ends.proofs.{FlushLaws.flushes_after, Logging.sinks_after, Running.runs_of}
use Rattle.command_ends.{proofs.Running.asks_none, specs.Programs.AsksFor, specs.Programs.EndsLog}
use Rattle.std.proofs.Common.{◌≡◌, ◌∙◌, ap, map, subst}
use Rattle.std.specs.String.{string_bytes}
use Rattle.line_capture.proofs.program.run.Given.{Over}
use Rattle.line_capture.proofs.program.run.Goals as goal

-- What is written last to the log is the text of the words, the input's reason and the outcome.
text_is : (g : Over) (c : goal.After-write_fault_line g) → c.as_slice.result.now
    ≡ capture_fault_text (map string_bytes c.args.words.now)
    (of_input (g.S.TellsReason.told_reason c.answer-outcome.new.input)) c.answer-outcome.result
text_is g c = c.as_slice.ensures.value ∙ c.fault_text.ensures
    ∙ ap (λ reason. capture_fault_text (map string_bytes c.args.words.now) (of_input reason)
    c.answer-outcome.result) c.reason.ensures

pub returns-clause-usage : goal.returns-clause-usage
returns-clause-usage g c = (
  λ is. subst (AsksFor IsCaptureCommand (map string_bytes c.args.words.now))
      (c.answer-outcome.ensures.usage.0 is) c.asked_by.ensures,
  λ none. c.answer-outcome.ensures.usage.1
      (asks_none IsCaptureCommand _ _ c.asked_by.ensures none),
)

pub returns-clause-causes : goal.returns-clause-causes
returns-clause-causes g c =
    let ends = subst (EndsLog g.L.Sink c.answer-outcome.new.log c.write_fault_line.new.log)
    (text_is g c) c.write_fault_line.ensures.ends in
    record {
      read_failed = c.answer-outcome.ensures.read_failed;
      input_never_falls = c.answer-outcome.ensures.input;
      sinks = sinks_after _ _ _ _ _ (status_in c.answer-outcome.result)
          c.answer-outcome.ensures.sinks ends.never_falls (λ none. ap g.L.Sink.faults
          (ends.same (no_text (map string_bytes c.args.words.now)
          (of_input (g.S.TellsReason.told_reason c.answer-outcome.new.input)) c.answer-outcome.result none)));
      flushes = flushes_after g.O.Sink g.L.Sink _ _ _ _ _ (status_in c.answer-outcome.result)
          c.answer-outcome.ensures.flushes
          (λ none. ends.same (no_text (map string_bytes c.args.words.now)
          (of_input (g.S.TellsReason.told_reason c.answer-outcome.new.input)) c.answer-outcome.result none))
          c.write_fault_line.ensures.flushes;
    }

pub returns-clause-runs : goal.returns-clause-runs
returns-clause-runs g c =
    let line = capture_fault_text (map string_bytes c.args.words.now)
    (of_input (g.S.TellsReason.told_reason c.answer-outcome.new.input)) in
    record {
      asked = c.asked_by.result;
      asks = c.asked_by.ensures;
      runs = runs_of g.L.Sink line (CaptureDoes g.S.Source g.O.Sink g.L.Sink) _
          c.asked_by.result _ _ _ c.answer-outcome.result _ _ (status_in c.answer-outcome.result)
          (no_text (map string_bytes c.args.words.now)
          (of_input (g.S.TellsReason.told_reason c.answer-outcome.new.input)) c.answer-outcome.result) c.answer-outcome.ensures.does
          c.answer-outcome.ensures.sinks
          (subst (EndsLog g.L.Sink c.answer-outcome.new.log c.write_fault_line.new.log)
          (text_is g c) c.write_fault_line.ensures.ends)
          c.write_fault_line.ensures.flushes;
      able = able_after g.S.Source g.O.Sink g.L.Sink c.asked_by.result _ _ _ c.answer-outcome.result
          c.answer-outcome.ensures.does (returns-clause-causes g c);
    }
