use Rattle.{frame_ending.specs.Answered.answered, device_model.specs.Frames.frames_lent}
use Rattle.line_texts.{proofs.Added.adds_as, proofs.Added.short_answer, specs.Adding.TextAdds}
use Rattle.line_texts.specs.{Adding.IsShort, Texts.waiting_in}
use Rattle.line_commands.specs.SpacedTexts.{lost_line, lost_lines}
use Rattle.std.proofs.Common.{◌≡◌, ◌∙◌, [], arith, ap, sym, subst, append-nil}
use Rattle.yasir_ticks.specs.TickRun.{run_ticks}
use Rattle.line_commands.proofs.spaced_lines.add_answer.Goals as goal

pub add_run-requires-clause-short : goal.add_run-requires-clause-short
add_run-requires-clause-short g c = subst IsShort (sym c.answer_run-answer.ensures)
    (short_answer c.args.run.taken c.sent_bytes.result.now c.requires.short
    (omega (arith, c.sent_bytes.ensures.few)))

pub add_lost-requires-clause-short : goal.add_lost-requires-clause-short
add_lost-requires-clause-short g c = subst IsShort (sym c.answer_run-answer.ensures)
    (short_answer c.args.run.taken c.sent_bytes.result.now c.requires.short
    (omega (arith, c.sent_bytes.ensures.few)))

pub returns-in-None : goal.returns-in-None
returns-in-None g c =
    let left = g.B.LineSpacer.sent c.args.spacer.now in
    let lent = g.B.LineSpacer.lent c.args.spacer.now in
    let same : run_ticks c.answer_run-answer.result ≡ answered c.args.run.taken left =
    c.answer_run-answer.ensures ∙ ap (answered c.args.run.taken) c.sent_bytes.ensures.bytes in
    subst (λ note. TextAdds (waiting_in c.args.texts.now) (waiting_in c.add_run.new.self)
    (answered c.args.run.taken left) note)
    (sym (ap (λ lost. lost_lines (frames_lent lost lent)) c.in-None.is))
    (adds_as (waiting_in c.args.texts.now) (waiting_in c.add_run.new.self) _ _ [] same
    c.add_run.ensures.adds)

pub returns-in-Some : goal.returns-in-Some
returns-in-Some g c =
    let left = g.B.LineSpacer.sent c.args.spacer.now in
    let lent = g.B.LineSpacer.lent c.args.spacer.now in
    let same : run_ticks c.answer_run-answer.result ≡ answered c.args.run.taken left =
    c.answer_run-answer.ensures ∙ ap (answered c.args.run.taken) c.sent_bytes.ensures.bytes in
    subst (λ note. TextAdds (waiting_in c.args.texts.now) (waiting_in c.add_lost.new.texts)
    (answered c.args.run.taken left) note)
    (sym (ap (λ lost. lost_lines (frames_lent lost lent)) c.in-Some.is
    ∙ append-nil (lost_line (record { start = c.in-Some.start; frame = lent }))))
    (adds_as (waiting_in c.args.texts.now) (waiting_in c.add_lost.new.texts) _ _
    (lost_line (record { start = c.in-Some.start; frame = lent })) same
    (subst (λ f. TextAdds (waiting_in c.args.texts.now) (waiting_in c.add_lost.new.texts)
    (run_ticks c.answer_run-answer.result)
    (lost_line (record { start = c.in-Some.start; frame = f })))
    c.frame_bytes.ensures.bytes c.add_lost.ensures))
