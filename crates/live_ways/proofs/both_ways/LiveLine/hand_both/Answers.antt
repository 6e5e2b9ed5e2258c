use Rattle.live_ways.proofs.HandingOn.{out_fails, both_handed, in_fails}
use Rattle.live_line.specs.declared.ways.Way.TheVariants.{Outgoing, Incoming}
use Rattle.std.proofs.Common.{arith}
use Rattle.live_ways.proofs.both_ways.LiveLine.hand_both.Goals as goal

pub hand_all-requires-clause-may : goal.hand_all-requires-clause-may
hand_all-requires-clause-may g c = let may = (c.requires Outgoing).may in record {
  ready = may.ready;
  line_room = omega (arith, may.room.ticks);
  ended = may.ended;
  level = may.level;
}

pub hand_all-requires-clause-ahead : goal.hand_all-requires-clause-ahead
hand_all-requires-clause-ahead g c = (c.requires Outgoing).ahead

pub hand_all-requires-clause-stands : goal.hand_all-requires-clause-stands
hand_all-requires-clause-stands g c = (c.requires Outgoing).stands

pub returns-in-Err : goal.returns-in-Err
returns-in-Err g c = out_fails g.X.WayBox g.Y.WayBox g.P.Port g.D.SlotDisk g.met.D.SlotDisk.only_now
    c.args.self.now c.hand_all.new.self c.args.port.now c.hand_all.new.port
    c.args.disks.now c.hand_all.new.disk c.requires c.in-Err.stop c.in-Err.ensures

pub hand_all-requires-2-clause-may : goal.hand_all-requires-2-clause-may
hand_all-requires-2-clause-may g c = let may = (c.requires Incoming).may in record {
  ready = may.ready;
  line_room = omega (arith, may.room.ticks);
  ended = may.ended;
  level = may.level;
}

pub hand_all-requires-2-clause-ahead : goal.hand_all-requires-2-clause-ahead
hand_all-requires-2-clause-ahead g c = (c.requires Incoming).ahead

pub hand_all-requires-2-clause-stands : goal.hand_all-requires-2-clause-stands
hand_all-requires-2-clause-stands g c = (c.requires Incoming).stands

pub returns-in-Ok-hand_all : goal.returns-in-Ok-hand_all
returns-in-Ok-hand_all g c = both_handed g.X.WayBox g.Y.WayBox g.P.Port g.D.SlotDisk
    g.met.D.SlotDisk.only_now c.args.self.now c.hand_all.new.self c.args.port.now c.hand_all.new.port
    c.args.disks.now c.hand_all.new.disk c.requires c.hand_all-2.new.self c.hand_all-2.new.port
    c.hand_all-2.new.disk c.in-Ok.ensures c.in-Ok-hand_all.ensures

pub returns-in-Err-hand_all : goal.returns-in-Err-hand_all
returns-in-Err-hand_all g c = in_fails g.X.WayBox g.Y.WayBox g.P.Port g.D.SlotDisk
    g.met.D.SlotDisk.only_now c.args.self.now c.hand_all.new.self c.args.port.now c.hand_all.new.port
    c.args.disks.now c.hand_all.new.disk c.requires c.hand_all-2.new.self c.hand_all-2.new.port
    c.hand_all-2.new.disk c.in-Ok.ensures c.in-Err-hand_all.stop c.in-Err-hand_all.ensures
