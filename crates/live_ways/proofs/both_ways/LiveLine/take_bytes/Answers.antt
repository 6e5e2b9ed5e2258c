use Rattle.live_ways.proofs.BytesTaken.{so_none, so_more, so_behind, so_ended, so_all}
use Rattle.live_ways.specs.LiveLine.{line_at}
use Rattle.std.proofs.Common.{arith, drop, drop-cons, ℕ, List}
use Rattle.std.proofs.lemmas.List.{nil_from_length}
use Rattle.live_ways.proofs.both_ways.LiveLine.take_bytes.Goals as goal

pub loop-following-init : goal.loop-following-init
loop-following-init g c = so_none g.X.WayBox g.Y.WayBox g.P.Port g.D.SlotDisk
    g.met.D.SlotDisk.only_now (line_at c.args.self.now c.args.port.now c.args.disks.now)
    c.args.piece.now c.requires

pub take_byte-requires : goal.take_byte-requires
take_byte-requires g c = c.loop-following.invariant.takes.ready

pub loop-following-preserved : goal.loop-following-preserved
loop-following-preserved g c = let following : List ℕ = c.loop-following.following.now in
    let next = line_at c.take_byte.new.self c.take_byte.new.port c.take_byte.new.disks in
    so_behind g.X.WayBox g.Y.WayBox g.P.Port g.D.SlotDisk
    (line_at c.args.self.now c.args.port.now c.args.disks.now) next c.args.piece.now following
    (so_more g.X.WayBox g.Y.WayBox g.P.Port g.D.SlotDisk
    (line_at c.args.self.now c.args.port.now c.args.disks.now)
    (line_at c.loop-following.self c.loop-following.port c.loop-following.disks) next
    c.args.piece.now following (drop 1 following) _ c.loop-following.invariant
    (drop-cons following 0 0 (grind arith)) c.in-Ok.ensures)

pub returns-in-Err : goal.returns-in-Err
returns-in-Err g c = so_ended g.X.WayBox g.Y.WayBox g.P.Port g.D.SlotDisk
    (line_at c.args.self.now c.args.port.now c.args.disks.now)
    (line_at c.loop-following.self c.loop-following.port c.loop-following.disks)
    (line_at c.take_byte.new.self c.take_byte.new.port c.take_byte.new.disks) c.args.piece.now
    c.loop-following.following.now _ _ c.in-Err.end c.loop-following.invariant
    (drop-cons c.loop-following.following.now 0 0 (grind arith)) c.in-Err.ensures

pub returns : goal.returns
returns g c = so_all g.X.WayBox g.Y.WayBox g.P.Port g.D.SlotDisk
    (line_at c.args.self.now c.args.port.now c.args.disks.now)
    (line_at c.loop-following.self c.loop-following.port c.loop-following.disks) c.args.piece.now
    c.loop-following.following.now c.loop-following.invariant
    (nil_from_length c.loop-following.following.now (grind arith))
