use Rattle.live_ways.proofs.Closing.{last_taken, last_ended}
use Rattle.live_ways.specs.LiveLine.{line_at}
use Rattle.live_ways.specs.Rests.{rest_on}
use Rattle.live_ways.proofs.both_ways.LiveLine.take_last.Goals as goal

pub returns-in-Err : goal.returns-in-Err
returns-in-Err g c = last_ended g.X.WayBox g.Y.WayBox g.P.Port g.D.SlotDisk (rest_on c.args.rests)
    (line_at c.args.self.now c.args.port.now c.args.disks.now)
    (line_at c.close.new.self c.close.new.port c.close.new.disks) (line_at c.close.new.self
    c.close.new.port c.close.new.disks)
    c.in-Err.end c.in-Err.ensures

pub take_rests-requires : goal.take_rests-requires
take_rests-requires g c = c.in-Ok.ensures.ready

pub returns : goal.returns
returns g c = last_taken g.X.WayBox g.Y.WayBox g.P.Port g.D.SlotDisk (rest_on c.args.rests)
    (line_at c.args.self.now c.args.port.now c.args.disks.now)
    (line_at c.close.new.self c.close.new.port c.close.new.disks)
    (line_at c.take_rests.new.self c.take_rests.new.port c.take_rests.new.disks)
    c.take_rests.result c.in-Ok.ensures c.take_rests.ensures
