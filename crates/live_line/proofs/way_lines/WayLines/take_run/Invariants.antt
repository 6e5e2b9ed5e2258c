use Rattle.live_line.specs.{WayLines.way_outside, WayRuns.way_filtering}
use Rattle.{std.proofs.Common.length, tick_drive.proofs.Moving.HasGiven}
use Rattle.yasir_ticks.specs.TickRun.{run_ticks, run_items}
use Rattle.live_line.proofs.way_lines.WayLines.take_run.Given as goal

abbrev pub invariant-loop-following : goal.invariant-loop-following
invariant-loop-following g l =
    HasGiven (way_filtering g.X.WayBox g.P.Port g.D.SlotDisk l.fn.way)
    (way_outside l.fn.self l.fn.port l.fn.disk) (way_outside l.self l.port l.disk)
    (run_items l.run) (run_items l.following)

abbrev pub decreases-loop-following : goal.decreases-loop-following
decreases-loop-following g l = length (run_ticks l.following)
