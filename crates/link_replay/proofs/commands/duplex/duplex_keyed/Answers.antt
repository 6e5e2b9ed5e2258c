use Rattle.line_commands.specs.{KeptBox.timed_of}
use Rattle.link_replay.specs.DuplexCommand.{both_in}
use Rattle.link_replay.proofs.Duplexed.{prints-so, ends-so, no-write}
use Rattle.command_ends.proofs.EndCauses.{input_cause, input_cause_of_whole, sink_cause_of_end}
use Rattle.{command_ends.proofs.FlushLaws.flushes_of_end, std.proofs.Common.refl}
use Rattle.link_replay.proofs.commands.duplex.duplex_keyed.Goals as goal

pub returns-clause-duplexes : goal.returns-clause-duplexes
returns-clause-duplexes g c = prints-so
    (both_in (timed_of g.S.LinkBox.walking g.S.LineBox.line_of)
    (timed_of g.C.LinkBox.walking g.C.LineBox.line_of) c.args.dir c.args.key.now) _ _ _ _ _ _
    c.in-Ok.recorded c.in-Ok.ensures.records c.print_both.result c.print_both.ensures.prints

pub returns-in-Err-clause-duplexes : goal.returns-in-Err-clause-duplexes
returns-in-Err-clause-duplexes g c = rw c.status_of.ensures (ends-so
    (both_in (timed_of g.S.LinkBox.walking g.S.LineBox.line_of)
    (timed_of g.C.LinkBox.walking g.C.LineBox.line_of) c.args.dir c.args.key.now) _ _ _ _ _ _
    c.in-Err.end c.in-Err.ensures.records refl refl)

pub returns-in-Err-clause-input : goal.returns-in-Err-clause-input
returns-in-Err-clause-input g c = rw c.status_of.ensures
    (input_cause _ _ c.in-Err.end c.in-Err.ensures.read)

pub returns-in-Err-clause-sinks : goal.returns-in-Err-clause-sinks
returns-in-Err-clause-sinks g c = rw c.status_of.ensures
    (sink_cause_of_end _ _ _ _ c.in-Err.end
    (no-write (both_in (timed_of g.S.LinkBox.walking g.S.LineBox.line_of)
    (timed_of g.C.LinkBox.walking g.C.LineBox.line_of) c.args.dir c.args.key.now) _ _
    (g.O.Sink.held c.args.ends.out.now) (g.O.Sink.held c.args.ends.out.now)
    (g.L.Sink.held c.args.ends.log.now) (g.L.Sink.held c.args.ends.log.now)
    c.in-Err.end c.in-Err.ensures.records)
    c.in-Err.ensures.records.other refl refl)

pub returns-in-Err-clause-flushes : goal.returns-in-Err-clause-flushes
returns-in-Err-clause-flushes g c = rw c.status_of.ensures
    (flushes_of_end g.O.Sink g.L.Sink _ _ _ _ c.in-Err.end c.in-Err.ensures.records.other
    (record { out = refl; log = refl }))

pub returns-clause-input : goal.returns-clause-input
returns-clause-input g c = input_cause_of_whole _ _ c.print_both.result
    c.print_both.ensures.status (c.in-Ok.ensures.read.same refl)
