use Rattle.live_commands.proofs.Heard.{so_none, so_more, so_ended, so_all}
use Rattle.live_commands.specs.LiveLine.{live_of}
use Rattle.std.proofs.{Common.arith, lemmas.List.nil_from_length}
use Rattle.live_commands.proofs.live_box.LiveBox.take_lines.Goals as goal

pub loop-following-init : goal.loop-following-init
loop-following-init g c = so_none g.B.LinkBox g.B.LineBox.line_of g.P.Port g.D.SlotDisk
    c.args.lines.now (live_of c.args.self.now c.args.port.now c.args.disk.now) c.args.piece.now
    g.met.D.SlotDisk.only_now c.requires.ready

pub loop-following-preserved : goal.loop-following-preserved
loop-following-preserved g c = so_more g.B.LinkBox g.B.LineBox.line_of g.P.Port g.D.SlotDisk
    c.args.lines.now c.loop-following.lines c.take_line.new.lines
    (live_of c.args.self.now c.args.port.now c.args.disk.now)
    (live_of c.loop-following.self c.loop-following.port c.loop-following.disk)
    (live_of c.take_line.new.self c.take_line.new.port c.take_line.new.disk) c.args.piece.now
    c.loop-following.following.now c.loop-following.invariant c.in-Ok.taken c.in-Ok.ensures

pub returns-in-Err : goal.returns-in-Err
returns-in-Err g c = so_ended g.B.LinkBox g.B.LineBox.line_of g.P.Port g.D.SlotDisk
    c.args.lines.now c.loop-following.lines c.take_line.new.lines
    (live_of c.args.self.now c.args.port.now c.args.disk.now)
    (live_of c.loop-following.self c.loop-following.port c.loop-following.disk)
    (live_of c.take_line.new.self c.take_line.new.port c.take_line.new.disk) c.args.piece.now
    c.loop-following.following.now c.loop-following.invariant c.in-Err.end c.in-Err.ensures

pub returns : goal.returns
returns g c = so_all g.B.LinkBox g.B.LineBox.line_of g.P.Port g.D.SlotDisk
    c.args.lines.now c.loop-following.lines (live_of c.args.self.now c.args.port.now c.args.disk.now)
    (live_of c.loop-following.self c.loop-following.port c.loop-following.disk) c.args.piece.now
    c.loop-following.following.now c.loop-following.invariant (nil_from_length c.loop-following.following.now (grind arith))
