use Rattle.live_commands.proofs.Finishing.{hears_ended_line, hears_finished_line}
use Rattle.{live_commands.specs.LiveLine.live_of, tick_drive.specs.declared.end.End.TheVariants.Whole}
use Rattle.live_commands.proofs.live_box.LiveBox.hear_line.Goals as goal

pub returns-in-Err : goal.returns-in-Err
returns-in-Err g c = hears_ended_line g.B.LinkBox g.B.LineBox.line_of g.P.Port g.D.SlotDisk
    c.new-lines.result c.args.rest (live_of c.args.self.now c.args.port.now c.args.disk.now)
    c.new-lines.ensures c.hear.new.lines (live_of c.hear.new.self c.hear.new.port c.hear.new.disk)
    c.in-Err.end c.in-Err.ensures

pub returns-in-Ok-finish : goal.returns-in-Ok-finish
returns-in-Ok-finish g c = hears_finished_line g.B.LinkBox g.B.LineBox.line_of g.P.Port g.D.SlotDisk
    c.new-lines.result c.args.rest (live_of c.args.self.now c.args.port.now c.args.disk.now)
    c.new-lines.ensures c.hear.new.lines (live_of c.hear.new.self c.hear.new.port c.hear.new.disk)
    (live_of c.finish.new.self c.finish.new.port c.finish.new.disk) c.in-Ok.ensures Whole
    c.in-Ok-finish.ensures

pub returns-in-Err-finish : goal.returns-in-Err-finish
returns-in-Err-finish g c = hears_finished_line g.B.LinkBox g.B.LineBox.line_of g.P.Port g.D.SlotDisk
    c.new-lines.result c.args.rest (live_of c.args.self.now c.args.port.now c.args.disk.now)
    c.new-lines.ensures c.hear.new.lines (live_of c.hear.new.self c.hear.new.port c.hear.new.disk)
    (live_of c.finish.new.self c.finish.new.port c.finish.new.disk) c.in-Ok.ensures c.in-Err-finish.end
    c.in-Err-finish.ensures
