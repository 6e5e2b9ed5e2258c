use Rattle.live_commands.{proofs.Lowering.drives_lowered, specs.LiveLine.live_of}
use Rattle.live_commands.proofs.live_box.LiveBox.drive.Goals as goal

pub returns : goal.returns
returns g c = drives_lowered g.B.LinkBox g.B.LineBox.line_of g.P.Port g.D.SlotDisk
    (live_of c.args.self.now c.args.port.now c.args.disk.now)
    (live_of c.hear_line-end.new.self c.hear_line-end.new.port c.hear_line-end.new.disk)
    c.lower_behind.new.self c.lower_behind.new.disk c.args.rest c.requires.level
    c.hear_line-end.result c.hear_line-end.ensures _ c.lower_behind.ensures

pub lower_behind-requires : goal.lower_behind-requires
lower_behind-requires g c = c.hear_line-end.ensures.clear
