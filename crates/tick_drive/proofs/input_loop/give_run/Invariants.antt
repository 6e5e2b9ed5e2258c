use Rattle.{std.proofs.Common.length, tick_drive.proofs.Moving.HasGiven}
use Rattle.yasir_ticks.specs.TickRun.{run_ticks, run_items}
use Rattle.tick_drive.proofs.input_loop.give_run.Given as goal

abbrev pub invariant-loop-left : goal.invariant-loop-left
invariant-loop-left g l = HasGiven g.C.Consumer.meaning l.fn.consumer l.consumer (run_items l.run)
    (run_items l.left)

abbrev pub decreases-loop-left : goal.decreases-loop-left
decreases-loop-left g l = length (run_ticks l.left)
