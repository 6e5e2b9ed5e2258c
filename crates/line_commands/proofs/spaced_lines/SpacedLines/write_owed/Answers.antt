use Rattle.line_commands.proofs.Owed.{none_written, some_more, more_stopped, all_written}
use Rattle.std.proofs.Common.{refl}
use Rattle.line_commands.proofs.spaced_lines.SpacedLines.write_owed.Goals as goal

pub loop-left-init : goal.loop-left-init
loop-left-init g c = none_written g.B.LineSpacer g.O.Sink g.L.Sink _ _ c.args.read
    c.requires.some c.requires.room

pub write_some-requires-clause-room : goal.write_some-requires-clause-room
write_some-requires-clause-room g c = c.loop-left.invariant.room

pub loop-left-preserved : goal.loop-left-preserved
loop-left-preserved g c = some_more g.B.LineSpacer g.O.Sink g.L.Sink _ _ _ _ _ c.args.read
    c.loop-left.invariant c.in-Ok.taken c.in-Ok.ensures

pub returns-in-Err : goal.returns-in-Err
returns-in-Err g c = more_stopped g.B.LineSpacer g.O.Sink g.L.Sink _ _ _ _ _ c.args.read
    c.loop-left.invariant _ c.loop-left-test.true c.in-Err.ensures

pub returns : goal.returns
returns g c =
    let wrote = c.loop-left.invariant in
    let kept = wrote.keeps in
    record {
      none = refl;
      moved = λ start line ticks long before.
          let all = all_written g.B.LineSpacer g.O.Sink g.L.Sink _ _ c.args.self.now _ _ c.args.read wrote
          c.loop-left-test.false start line ticks long before in
          record { owes = all.owes; sends = all.sends };
      counts = wrote.counts;
      room = wrote.room;
      keeps = record {
        spacer = kept.spacer;
        texts = kept.texts;
        out = kept.out;
        log = kept.log;
        sinks = kept.sinks;
        flushes = kept.flushes;
      };
    }
