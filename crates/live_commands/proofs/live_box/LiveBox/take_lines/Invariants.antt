use Rattle.live_commands.{proofs.Heard.HasTakenSo, specs.LiveLine.live_of}
use Rattle.std.proofs.Common.{length}
use Rattle.live_commands.proofs.live_box.LiveBox.take_lines.Given as goal

abbrev pub invariant-loop-following : goal.invariant-loop-following
invariant-loop-following g l = HasTakenSo g.B.LinkBox g.B.LineBox.line_of g.P.Port g.D.SlotDisk
    l.fn.lines l.lines (live_of l.fn.self l.fn.port l.fn.disk) (live_of l.self l.port l.disk)
    l.piece l.following

abbrev pub decreases-loop-following : goal.decreases-loop-following
decreases-loop-following g l = length l.following
