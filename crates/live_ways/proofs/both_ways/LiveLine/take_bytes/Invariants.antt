use Rattle.live_ways.{proofs.BytesTaken.HasTakenSo, specs.LiveLine.line_at}
use Rattle.std.proofs.Common.{length}
use Rattle.live_ways.proofs.both_ways.LiveLine.take_bytes.Given as goal

abbrev pub invariant-loop-following : goal.invariant-loop-following
invariant-loop-following g l = HasTakenSo g.X.WayBox g.Y.WayBox g.P.Port g.D.SlotDisk
    (line_at l.fn.self l.fn.port l.fn.disks) (line_at l.self l.port l.disks) l.piece l.following

abbrev pub decreases-loop-following : goal.decreases-loop-following
decreases-loop-following g l = length l.following
