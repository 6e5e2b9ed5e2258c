use Rattle.line_commands.specs.KeptBox.{timed_of}
use Rattle.wire_commands.specs.WireLines.{wire_texts_with}
use Rattle.link_replay.proofs.Duplexed.{prints-so, ends-so, no-write}
use Rattle.command_ends.proofs.EndCauses.{input_cause, input_cause_of_whole, sink_cause_of_end}
use Rattle.{command_ends.proofs.FlushLaws.flushes_of_end, std.proofs.Common.refl}
use Rattle.link_replay.proofs.commands.wires.drive_keyed.Goals as goal

pub returns-clause-drives : goal.returns-clause-drives
returns-clause-drives g c = prints-so
    (wire_texts_with (timed_of g.S.LinkBox.walking g.S.LineBox.line_of)
    (timed_of g.C.LinkBox.walking g.C.LineBox.line_of) c.args.at.side c.args.at.waits
    c.args.key.now c.args.at.outgoing) _ _ _ _ _ _
    c.in-Ok.recorded c.in-Ok.ensures.records c.print_both.result c.print_both.ensures.prints

pub returns-in-Err-clause-drives : goal.returns-in-Err-clause-drives
returns-in-Err-clause-drives g c = rw c.status_of.ensures (ends-so
    (wire_texts_with (timed_of g.S.LinkBox.walking g.S.LineBox.line_of)
    (timed_of g.C.LinkBox.walking g.C.LineBox.line_of) c.args.at.side c.args.at.waits
    c.args.key.now c.args.at.outgoing) _ _ _ _ _ _
    c.in-Err.end c.in-Err.ensures.records refl refl)

pub returns-in-Err-clause-input : goal.returns-in-Err-clause-input
returns-in-Err-clause-input g c = rw c.status_of.ensures
    (input_cause _ _ c.in-Err.end c.in-Err.ensures.read)

pub returns-in-Err-clause-sinks : goal.returns-in-Err-clause-sinks
returns-in-Err-clause-sinks g c = rw c.status_of.ensures
    (sink_cause_of_end _ _ _ _ c.in-Err.end
    (no-write (wire_texts_with (timed_of g.S.LinkBox.walking g.S.LineBox.line_of)
    (timed_of g.C.LinkBox.walking g.C.LineBox.line_of) c.args.at.side c.args.at.waits
    c.args.key.now c.args.at.outgoing) _ _
    (g.O.Sink.held c.args.ends.out.now) (g.O.Sink.held c.args.ends.out.now)
    (g.L.Sink.held c.args.ends.log.now) (g.L.Sink.held c.args.ends.log.now)
    c.in-Err.end c.in-Err.ensures.records)
    c.in-Err.ensures.records.other refl refl)

pub returns-in-Err-clause-flushes : goal.returns-in-Err-clause-flushes
returns-in-Err-clause-flushes g c = rw c.status_of.ensures
    (flushes_of_end g.O.Sink g.L.Sink _ _ _ _ c.in-Err.end c.in-Err.ensures.records.other
    (record { out = refl; log = refl }))

pub returns-clause-input : goal.returns-clause-input
returns-clause-input g c = input_cause_of_whole _ _ c.print_both.result
    c.print_both.ensures.status (c.in-Ok.ensures.read.same refl)
