use Rattle.line_commands.proofs.Settled.{last_settle_stops, finish_went, finish_stops}
use Rattle.line_commands.specs.BoxLines.{state_of_lines}
use Rattle.line_commands.proofs.box_lines.BoxLines.finish.Goals as goal

pub returns-in-Err : goal.returns-in-Err
returns-in-Err g c = let did = c.in-Err.ensures in
    last_settle_stops g.B.LinkBox g.B.LineBox.line_of g.O.Sink g.L.Sink g.D.SlotDisk
    (state_of_lines c.args.self c.args.out.now c.args.log.now c.args.disk.now) c.requires.ready
    c.settle_all.new.self c.settle_all.new.disk did.link did.not_below did.safe did.any_moment
    _ did.failed did.cause

pub returns-in-Ok-finish : goal.returns-in-Ok-finish
returns-in-Ok-finish g c = let did = c.in-Ok.ensures in
    finish_went g.B.LinkBox g.B.LineBox.line_of g.O.Sink g.L.Sink g.D.SlotDisk
    (state_of_lines c.args.self c.args.out.now c.args.log.now c.args.disk.now) c.requires.ready
    c.settle_all.new.self c.settle_all.new.disk did.link did.not_below did.safe did.any_moment
    did.settled did.number did.stands did.cause c.finish.new.out c.finish.new.log
    c.in-Ok-finish.ensures.flushes c.in-Ok-finish.ensures.ok c.in-Ok-finish.ensures.cause

pub returns : goal.returns
returns g c = let did = c.in-Ok.ensures in
    finish_stops g.B.LinkBox g.B.LineBox.line_of g.O.Sink g.L.Sink g.D.SlotDisk
    (state_of_lines c.args.self c.args.out.now c.args.log.now c.args.disk.now) c.requires.ready
    c.settle_all.new.self c.settle_all.new.disk did.link did.not_below did.safe did.any_moment
    did.settled did.number did.stands did.cause c.finish.new.out c.finish.new.log
    c.in-Err-finish.ensures.flushes c.in-Err-finish.field-0 c.in-Err-finish.ensures.err
    c.in-Err-finish.ensures.cause
