use Rattle.live_ways.proofs.Finishing.{stream_ended, stream_heard}
use Rattle.live_ways.specs.LiveLine.{line_at}
use Rattle.live_ways.specs.Rests.{rest_on}
use Rattle.live_ways.specs.declared.way_end.WayEnd.TheVariants.{Whole}
use Rattle.live_ways.proofs.both_ways.LiveLine.hear_stream.Goals as goal

pub returns-in-Err : goal.returns-in-Err
returns-in-Err g c = stream_ended g.X.WayBox g.Y.WayBox g.P.Port g.D.SlotDisk (rest_on c.args.rests)
    (line_at c.args.self.now c.args.port.now c.args.disks.now)
    (line_at c.hear.new.self c.hear.new.port c.hear.new.disks)
    c.in-Err.end c.in-Err.ensures

pub finish-requires : goal.finish-requires
finish-requires g c = c.in-Ok.ensures.ready

pub returns-in-Ok-finish : goal.returns-in-Ok-finish
returns-in-Ok-finish g c = stream_heard g.X.WayBox g.Y.WayBox g.P.Port g.D.SlotDisk (rest_on
    c.args.rests)
    (line_at c.args.self.now c.args.port.now c.args.disks.now)
    (line_at c.hear.new.self c.hear.new.port c.hear.new.disks)
    (line_at c.finish.new.self c.finish.new.port c.finish.new.disks)
    Whole c.in-Ok.ensures c.in-Ok-finish.ensures

pub returns-in-Err-finish : goal.returns-in-Err-finish
returns-in-Err-finish g c = stream_heard g.X.WayBox g.Y.WayBox g.P.Port g.D.SlotDisk (rest_on
    c.args.rests)
    (line_at c.args.self.now c.args.port.now c.args.disks.now)
    (line_at c.hear.new.self c.hear.new.port c.hear.new.disks)
    (line_at c.finish.new.self c.finish.new.port c.finish.new.disks)
    c.in-Err-finish.end c.in-Ok.ensures c.in-Err-finish.ensures
