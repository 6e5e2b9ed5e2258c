use Rattle.live_line.proofs.Running.{tick_given, tick_handed, tick_ahead, tick_stands}
use Rattle.live_line.specs.WayLines.{way_outside}
use Rattle.live_line.proofs.way_lines.WayLines.take_tick.Goals as goal

pub returns-then-has_room : goal.returns-then-has_room
returns-then-has_room g c = tick_given g.X.WayBox g.P.Port g.D.SlotDisk c.args.way c.args.self.now
    c.take.new.self c.args.port.now c.args.disk.now c.args.tick c.take.ensures
    g.met.D.SlotDisk.only_now c.requires.able (c.has_room.ensures.room c.if-has_room.true)

pub hand_all-requires-clause-ahead : goal.hand_all-requires-clause-ahead
hand_all-requires-clause-ahead g c = tick_ahead g.X.WayBox g.P.Port g.D.SlotDisk c.args.way
    c.args.self.now c.take.new.self c.args.port.now c.args.disk.now c.args.tick c.take.ensures
    c.requires.able.ahead

pub hand_all-requires-clause-stands : goal.hand_all-requires-clause-stands
hand_all-requires-clause-stands g c = tick_stands g.X.WayBox g.P.Port g.D.SlotDisk c.args.way
    c.args.self.now c.take.new.self c.args.port.now c.args.disk.now c.args.tick c.take.ensures
    c.requires.able.stands

pub returns : goal.returns
returns g c = tick_handed g.X.WayBox g.P.Port g.D.SlotDisk c.args.way c.args.self.now
    c.take.new.self c.args.port.now c.args.disk.now c.args.tick c.take.ensures
    (way_outside c.hand_all.new.self c.hand_all.new.port c.hand_all.new.disk) _
    g.met.D.SlotDisk.only_now c.hand_all.ensures
