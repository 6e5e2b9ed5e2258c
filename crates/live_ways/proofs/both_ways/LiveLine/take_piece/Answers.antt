use Rattle.live_ways.proofs.PieceTaken.{piece_answer, ready_behind}
use Rattle.live_ways.specs.LiveLine.{line_at}
use Rattle.live_ways.proofs.both_ways.LiveLine.take_piece.Goals as goal

pub hand_behind-requires : goal.hand_behind-requires
hand_behind-requires g c = ready_behind g.X.WayBox g.Y.WayBox g.P.Port g.D.SlotDisk
    (line_at c.args.self.now c.args.port.now c.args.disks.now)
    (line_at c.take_bytes-taken.new.self c.take_bytes-taken.new.port c.take_bytes-taken.new.disks)
    (line_at c.take_bytes-taken.new.self c.take_bytes-taken.new.port c.take_bytes-taken.new.disks)
    c.args.piece.now c.take_bytes-taken.result c.take_bytes-taken.ensures

pub returns : goal.returns
returns g c = piece_answer g.X.WayBox g.Y.WayBox g.P.Port g.D.SlotDisk
    (line_at c.args.self.now c.args.port.now c.args.disks.now)
    (line_at c.take_bytes-taken.new.self c.take_bytes-taken.new.port c.take_bytes-taken.new.disks)
    (line_at c.hand_behind.new.self c.hand_behind.new.port c.hand_behind.new.disks)
    c.args.piece.now c.take_bytes-taken.result _ c.take_bytes-taken.ensures c.hand_behind.ensures
