use Rattle.live_line.proofs.Running.{hands_all}
use Rattle.live_line.specs.WayLines.{way_outside}
use Rattle.live_line.proofs.way_lines.WayLines.hand_all.Goals as goal

pub returns : goal.returns
returns g c = hands_all g.X.WayBox g.P.Port g.D.SlotDisk c.args.way
    (way_outside c.args.self.now c.args.port.now c.args.disk.now)
    (way_outside c.hand_on.new.self c.hand_on.new.port c.hand_on.new.disk) c.requires.ahead
    g.X.WayBox.number_is _ c.hand_on.ensures
