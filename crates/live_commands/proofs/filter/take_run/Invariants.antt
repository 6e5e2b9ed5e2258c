use Rattle.live_commands.specs.Filtering.{filtering, outside}
use Rattle.{std.proofs.Common.length, tick_drive.proofs.Moving.HasGiven}
use Rattle.yasir_ticks.specs.TickRun.{run_ticks, run_items}
use Rattle.live_commands.proofs.filter.take_run.Given as goal

abbrev pub invariant-loop-following : goal.invariant-loop-following
invariant-loop-following g l =
    HasGiven (filtering g.B.LinkBox g.B.LineBox.line_of g.P.Port g.D.SlotDisk)
    (outside l.fn.lines l.fn.port l.fn.disk) (outside l.lines l.port l.disk) (run_items l.run)
    (run_items l.following)

abbrev pub decreases-loop-following : goal.decreases-loop-following
decreases-loop-following g l = length (run_ticks l.following)
