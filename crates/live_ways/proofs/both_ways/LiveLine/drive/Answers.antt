use Rattle.live_ways.proofs.Lowering.{drives_lowered, may_lower}
use Rattle.live_ways.specs.LiveLine.{line_at}
use Rattle.live_ways.specs.Rests.{rest_on}
use Rattle.live_ways.proofs.both_ways.LiveLine.drive.Goals as goal

pub lower_behind-requires : goal.lower_behind-requires
lower_behind-requires g c = may_lower g.X.WayBox g.Y.WayBox g.P.Port g.D.SlotDisk
    g.met.D.SlotDisk.only_now (rest_on c.args.rests)
    (line_at c.args.self.now c.args.port.now c.args.disks.now)
    c.hear_stream-end.new.self c.hear_stream-end.new.self c.hear_stream-end.new.port
    c.hear_stream-end.new.disks c.hear_stream-end.new.disks c.requires.level
    c.hear_stream-end.result c.hear_stream-end.ensures

pub returns : goal.returns
returns g c = drives_lowered g.X.WayBox g.Y.WayBox g.P.Port g.D.SlotDisk g.met.D.SlotDisk.only_now
    (rest_on c.args.rests)
    (line_at c.args.self.now c.args.port.now c.args.disks.now)
    c.hear_stream-end.new.self c.lower_behind.new.self c.hear_stream-end.new.port
    c.hear_stream-end.new.disks c.lower_behind.new.disks c.requires.level
    c.hear_stream-end.result c.hear_stream-end.ensures c.lower_behind.result
    c.lower_behind.ensures
