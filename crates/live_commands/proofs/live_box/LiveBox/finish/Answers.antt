use Rattle.live_commands.{proofs.Behind.finish_behind, proofs.Behind.may_of_last, specs.LiveLine.live_of}
use Rattle.live_commands.proofs.live_box.LiveBox.finish.Goals as goal

pub returns : goal.returns
returns g c = finish_behind g.B.LinkBox g.B.LineBox.line_of g.P.Port g.D.SlotDisk
    (live_of c.args.self.now c.args.port.now c.args.disk.now)
    (live_of c.take_last-taken.new.self c.take_last-taken.new.port c.take_last-taken.new.disk)
    (live_of c.hand_behind.new.self c.hand_behind.new.port c.hand_behind.new.disk)
    c.args.lines c.args.rest c.take_last-taken.result _
    c.take_last-taken.ensures c.hand_behind.ensures

pub hand_behind-requires : goal.hand_behind-requires
hand_behind-requires g c = may_of_last g.B.LinkBox g.B.LineBox.line_of g.P.Port g.D.SlotDisk
    (live_of c.args.self.now c.args.port.now c.args.disk.now)
    (live_of c.take_last-taken.new.self c.take_last-taken.new.port c.take_last-taken.new.disk)
    c.args.lines c.args.rest c.take_last-taken.result c.take_last-taken.ensures
