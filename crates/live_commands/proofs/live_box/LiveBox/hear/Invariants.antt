use Rattle.live_commands.{proofs.Hearing.HearsSo, specs.LiveLine.live_of}
use Rattle.{live_commands.specs.declared.live_box.TheConstants.MAX_LIVE_BYTES, std.proofs.Common.◌-◌}
use Rattle.live_commands.proofs.live_box.LiveBox.hear.Given as goal

abbrev pub invariant-loop-bytes : goal.invariant-loop-bytes
invariant-loop-bytes g l = HearsSo g.B.LinkBox g.B.LineBox.line_of g.P.Port g.D.SlotDisk
    l.fn.lines l.lines (live_of l.fn.self l.fn.port l.fn.disk) (live_of l.self l.port l.disk)
    l.bytes

abbrev pub decreases-loop-bytes : goal.decreases-loop-bytes
decreases-loop-bytes g l = MAX_LIVE_BYTES - l.bytes
