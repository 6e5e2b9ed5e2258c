use Rattle.command_ends.proofs.{EndCauses.sink_cause_of_whole, FlushLaws.flushes_of_whole}
use Rattle.command_ends.proofs.Printed.{prints_whole}
use Rattle.std.proofs.Common.{◌∙◌, refl}
use Rattle.command_ends.proofs.ending.print_text.Goals as goal

pub returns-clause-out : goal.returns-clause-out
returns-clause-out g c = prints_whole c.args.text.now (g.O.Sink.held c.args.out.now)
    (g.O.Sink.held c.flush_both.new.out) c.flush_both.result c.flush_both.ensures.status
    (c.flush_both.ensures.out ∙ c.in-Ok.ensures.ok)

pub returns-clause-sinks : goal.returns-clause-sinks
returns-clause-sinks g c = sink_cause_of_whole _ _ _ _ _ _ c.in-Ok.ensures.cause.same refl
    c.flush_both.result c.flush_both.ensures.sinks

pub returns-clause-flushes : goal.returns-clause-flushes
returns-clause-flushes g c = flushes_of_whole g.O.Sink g.L.Sink _ _ _ _ _ _
    (record { out = c.in-Ok.ensures.flushes; log = refl }) refl c.flush_both.result
    c.flush_both.ensures.flushes
