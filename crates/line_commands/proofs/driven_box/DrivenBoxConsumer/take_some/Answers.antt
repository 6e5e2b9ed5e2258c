use Rattle.line_commands.proofs.Behind.{some_by}
use Rattle.line_commands.proofs.Driven.{taken_some, handed_some, stopped_some}
use Rattle.line_commands.specs.DrivenBox.{state_in}
use Rattle.std.proofs.Common.{refl, ap, length, arith, Ok, Err}
use Rattle.yasir_ticks.proofs.TickRuns.{ticks_in-run}
use Rattle.line_commands.proofs.driven_box.DrivenBoxConsumer.take_some.Goals as goal

pub take_some-count-requires-clause-count : goal.take_some-count-requires-clause-count
take_some-count-requires-clause-count g c =
    omega (arith, c.requires.may.room, ap length (ticks_in-run c.args.run))

pub returns-then-has_room : goal.returns-then-has_room
returns-then-has_room g c = some_by g.B.LinkBox g.B.LineBox.line_of g.O.Sink g.L.Sink g.D.SlotDisk
    _ _ _ (Ok c.take_some-count.result)
    (record { lines = refl; out = refl; log = refl; disk = refl })
    (taken_some g.B.LinkBox g.B.LineBox.line_of g.O.Sink g.L.Sink g.D.SlotDisk
    g.met.D.SlotDisk.only_now (state_in c.args.self.now) _ c.args.run c.take_some-count.result
    (record { room = c.requires.may.room; able = c.requires.may.able }) c.take_some-count.ensures
    (c.has_room.ensures.room c.if-has_room.true))

pub returns-in-Ok : goal.returns-in-Ok
returns-in-Ok g c = some_by g.B.LinkBox g.B.LineBox.line_of g.O.Sink g.L.Sink g.D.SlotDisk
    _ _ _ (Ok c.take_some-count.result)
    (record { lines = refl; out = refl; log = refl; disk = refl })
    (handed_some g.B.LinkBox g.B.LineBox.line_of g.O.Sink g.L.Sink g.D.SlotDisk
    g.met.D.SlotDisk.only_now (state_in c.args.self.now) _ c.args.run c.take_some-count.result
    (record { room = c.requires.may.room; able = c.requires.may.able }) c.take_some-count.ensures
    _ c.in-Ok.ensures)

pub returns-in-Err : goal.returns-in-Err
returns-in-Err g c = some_by g.B.LinkBox g.B.LineBox.line_of g.O.Sink g.L.Sink g.D.SlotDisk
    _ _ _ (Err c.in-Err.stop)
    (record { lines = refl; out = refl; log = refl; disk = refl })
    (stopped_some g.B.LinkBox g.B.LineBox.line_of g.O.Sink g.L.Sink g.D.SlotDisk
    g.met.D.SlotDisk.only_now (state_in c.args.self.now) _ c.args.run c.take_some-count.result
    (record { room = c.requires.may.room; able = c.requires.may.able }) c.take_some-count.ensures
    _ c.in-Err.stop c.in-Err.ensures)
