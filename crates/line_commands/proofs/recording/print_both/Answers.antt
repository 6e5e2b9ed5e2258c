use Rattle.line_commands.proofs.Filled.{prints-all}
use Rattle.std.{proofs.Common.◌∙◌, proofs.Common.ap, specs.Io.KnownBytes.append_known}
use Rattle.line_commands.proofs.recording.print_both.Goals as goal

pub returns-clause-prints : goal.returns-clause-prints
returns-clause-prints g c = λ texts holds.
    prints-all texts _ _ _ _ c.flush_both.result c.flush_both.ensures.status
    (c.flush_both.ensures.out ∙ c.in-Ok-write_lines.ensures.ok texts holds)
    (c.flush_both.ensures.log ∙ (c.in-Ok.ensures.ok
    ∙ ap (append_known (g.L.Sink.held c.args.log.now)) (c.as_slice.ensures.value ∙ holds.notes)))
