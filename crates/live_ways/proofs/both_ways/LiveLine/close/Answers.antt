use Rattle.live_ways.proofs.Closing.{close_answer, close_none}
use Rattle.live_ways.specs.LiveLine.{line_at}
use Rattle.live_ways.proofs.both_ways.LiveLine.close.Goals as goal

pub returns-then-is_open : goal.returns-then-is_open
returns-then-is_open g c = close_answer g.X.WayBox g.Y.WayBox g.P.Port g.D.SlotDisk
    (line_at c.args.self.now c.args.port.now c.args.disks.now)
    (line_at c.take_byte.new.self c.take_byte.new.port c.take_byte.new.disks)
    c.take_byte.result (c.is_open.ensures.open c.if-is_open.true) c.take_byte.ensures

pub returns : goal.returns
returns g c = close_none g.X.WayBox g.Y.WayBox g.P.Port g.D.SlotDisk
    g.met.D.SlotDisk.only_now (line_at c.args.self.now c.args.port.now c.args.disks.now) c.requires
    (c.is_open.ensures.ended c.if-is_open.false)
