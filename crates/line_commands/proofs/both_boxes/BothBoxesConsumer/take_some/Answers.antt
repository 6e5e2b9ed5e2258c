use Rattle.std.proofs.Common.{ap, arith, length}
use Rattle.yasir_ticks.proofs.TickRuns.{ticks_in-run, length-run_items}
use Rattle.line_commands.proofs.BothKept.{gives-outgoing, gives-incoming, gives-none}
use Rattle.line_commands.proofs.both_boxes.BothBoxesConsumer.take_some.Goals as goal

pub take_some-requires-clause-room : goal.take_some-requires-clause-room
take_some-requires-clause-room g c =
    omega (arith, c.requires.may.room, ap length (ticks_in-run c.args.run))

pub returns-in-Ok : goal.returns-in-Ok
returns-in-Ok g c =
    gives-incoming g.S.LinkBox g.S.LineBox.line_of g.C.LinkBox g.C.LineBox.line_of
    c.args.self.now c.requires.may.able c.args.run c.in-Ok.count c.take_some.new.self
    c.if-self.true c.in-Ok.ensures

pub returns-in-Err : goal.returns-in-Err
returns-in-Err g c =
    gives-none g.S.LinkBox g.S.LineBox.line_of g.C.LinkBox g.C.LineBox.line_of
    c.args.self.now _ _ (omega (arith, c.requires.some, length-run_items c.args.run))

pub take_some-requires-2-clause-room : goal.take_some-requires-2-clause-room
take_some-requires-2-clause-room g c =
    omega (arith, c.requires.may.room, ap length (ticks_in-run c.args.run))

pub returns-in-Ok-take_some : goal.returns-in-Ok-take_some
returns-in-Ok-take_some g c =
    gives-outgoing g.S.LinkBox g.S.LineBox.line_of g.C.LinkBox g.C.LineBox.line_of
    c.args.self.now c.requires.may.able c.args.run c.in-Ok-take_some.count
    c.take_some-2.new.self c.if-self.false c.in-Ok-take_some.ensures

pub returns-in-Err-take_some : goal.returns-in-Err-take_some
returns-in-Err-take_some g c =
    gives-none g.S.LinkBox g.S.LineBox.line_of g.C.LinkBox g.C.LineBox.line_of
    c.args.self.now _ _ (omega (arith, c.requires.some, length-run_items c.args.run))
