use Rattle.live_ways.{proofs.Hearing.HearsSo, specs.LiveLine.line_at}
use Rattle.{live_commands.specs.declared.live_box.TheConstants.MAX_LIVE_BYTES}
use Rattle.{std.proofs.Common.◌-◌}
use Rattle.live_ways.proofs.both_ways.LiveLine.hear.Given as goal

abbrev pub invariant-loop-bytes : goal.invariant-loop-bytes
invariant-loop-bytes g l = HearsSo g.X.WayBox g.Y.WayBox g.P.Port g.D.SlotDisk
    (line_at l.fn.self l.fn.port l.fn.disks) (line_at l.self l.port l.disks) l.bytes

abbrev pub decreases-loop-bytes : goal.decreases-loop-bytes
decreases-loop-bytes g l = MAX_LIVE_BYTES - l.bytes
