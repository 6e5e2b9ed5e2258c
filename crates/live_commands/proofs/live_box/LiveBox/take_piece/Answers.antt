use Rattle.live_commands.{proofs.Behind.piece_behind, proofs.Behind.may_of_lines, specs.LiveLine.live_of}
use Rattle.live_commands.proofs.live_box.LiveBox.take_piece.Goals as goal

pub returns : goal.returns
returns g c = piece_behind g.B.LinkBox g.B.LineBox.line_of g.P.Port g.D.SlotDisk
    (live_of c.args.self.now c.args.port.now c.args.disk.now)
    (live_of c.take_lines-taken.new.self c.take_lines-taken.new.port c.take_lines-taken.new.disk)
    (live_of c.hand_behind.new.self c.hand_behind.new.port c.hand_behind.new.disk)
    c.args.lines.now c.take_lines-taken.new.lines c.args.piece.now c.take_lines-taken.result _
    c.take_lines-taken.ensures c.hand_behind.ensures

pub hand_behind-requires : goal.hand_behind-requires
hand_behind-requires g c = may_of_lines g.B.LinkBox g.B.LineBox.line_of g.P.Port g.D.SlotDisk
    (live_of c.args.self.now c.args.port.now c.args.disk.now)
    (live_of c.take_lines-taken.new.self c.take_lines-taken.new.port c.take_lines-taken.new.disk)
    c.args.lines.now c.take_lines-taken.new.lines c.args.piece.now c.take_lines-taken.result
    c.take_lines-taken.ensures
