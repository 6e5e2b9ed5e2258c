use Rattle.live_line.specs.declared.ways.Way.TheVariants.{Outgoing}
use Rattle.live_ways.proofs.Resting.{rest_fits, out_stopped, in_may, both_taken, in_stopped}
use Rattle.live_ways.specs.Rests.{by_way}
use Rattle.std.proofs.Common.{arith}
use Rattle.live_ways.proofs.both_ways.LiveLine.take_rests.Goals as goal

pub take_run-requires : goal.take_run-requires
take_run-requires g c = rest_fits g.X.WayBox g.P.Port g.D.SlotDisk Outgoing c.args.self.now.outgoing
    c.args.port.now c.args.disks.now.first c.args.outgoing
    (omega (arith, c.ranges.outgoing.fits)) (c.requires Outgoing)
    c.args.port.now c.args.disks.now.first (c.requires Outgoing).able

pub returns-in-Err : goal.returns-in-Err
returns-in-Err g c = out_stopped g.X.WayBox g.Y.WayBox g.P.Port g.D.SlotDisk g.met.D.SlotDisk.only_now
    c.args.self.now c.take_run.new.self c.args.port.now c.take_run.new.port
    c.args.disks.now c.take_run.new.disk (λ way. (c.requires way).able) (by_way c.args.outgoing
    c.args.incoming)
    c.in-Err.stop c.in-Err.ensures

pub take_run-requires-2 : goal.take_run-requires-2
take_run-requires-2 g c = in_may g.X.WayBox g.Y.WayBox g.P.Port g.D.SlotDisk g.met.D.SlotDisk.only_now
    c.args.self.now c.take_run.new.self c.args.port.now c.take_run.new.port
    c.args.disks.now c.take_run.new.disk (λ way. (c.requires way).able) (by_way c.args.outgoing
    c.args.incoming)
    c.in-Ok.ensures c.requires
    (omega (arith, c.ranges.incoming.fits))

pub returns-in-Ok-take_run : goal.returns-in-Ok-take_run
returns-in-Ok-take_run g c = both_taken g.X.WayBox g.Y.WayBox g.P.Port g.D.SlotDisk
    g.met.D.SlotDisk.only_now c.args.self.now c.take_run.new.self c.args.port.now c.take_run.new.port
    c.args.disks.now c.take_run.new.disk
    (λ way. (c.requires way).able) (by_way c.args.outgoing c.args.incoming) c.in-Ok.ensures
    c.take_run-2.new.self
    c.take_run-2.new.port c.take_run-2.new.disk c.in-Ok-take_run.ensures

pub returns-in-Err-take_run : goal.returns-in-Err-take_run
returns-in-Err-take_run g c = in_stopped g.X.WayBox g.Y.WayBox g.P.Port g.D.SlotDisk
    g.met.D.SlotDisk.only_now c.args.self.now c.take_run.new.self c.args.port.now c.take_run.new.port
    c.args.disks.now c.take_run.new.disk
    (λ way. (c.requires way).able) (by_way c.args.outgoing c.args.incoming) c.in-Ok.ensures
    c.take_run-2.new.self
    c.take_run-2.new.port c.take_run-2.new.disk c.in-Err-take_run.stop c.in-Err-take_run.ensures
