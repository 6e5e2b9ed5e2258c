use Rattle.live_ways.proofs.Finishing.{finish_answer}
use Rattle.live_ways.specs.LiveLine.{line_at}
use Rattle.live_ways.specs.Rests.{rest_on}
use Rattle.live_ways.proofs.both_ways.LiveLine.finish.Goals as goal

pub hand_behind-requires : goal.hand_behind-requires
hand_behind-requires g c = c.take_last-taken.ensures.able

pub returns : goal.returns
returns g c = finish_answer g.X.WayBox g.Y.WayBox g.P.Port g.D.SlotDisk (rest_on c.args.rests)
    (line_at c.args.self.now c.args.port.now c.args.disks.now)
    (line_at c.take_last-taken.new.self c.take_last-taken.new.port c.take_last-taken.new.disks)
    (line_at c.hand_behind.new.self c.hand_behind.new.port c.hand_behind.new.disks)
    c.take_last-taken.result _ c.take_last-taken.ensures c.hand_behind.ensures
