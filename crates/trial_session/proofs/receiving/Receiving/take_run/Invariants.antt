use Rattle.std.proofs.Common.{◌≡◌, ◌+◌, ◌-◌, ◌≤◌, ◌++◌, List, length, take}
use Rattle.trial_session.specs.Sides.{MayGoOnReceiving, IsReceiving}
use Rattle.yasir_ticks.specs.{TickRun.run_ticks, declared.tick.Tick.Tick}
use Rattle.trial_session.proofs.receiving.Receiving.take_run.Given as goal

abbrev pub invariant-loop-at : goal.invariant-loop-at
invariant-loop-at g l =
    (l.at ≤ length (run_ticks l.run))
    × MayGoOnReceiving g.C.LinkBox g.V.Device l.self l.waiting.items
    × (g.C.LinkBox.taken l.self.checking.line_box
    ≡ g.C.LinkBox.taken l.fn.self.checking.line_box + l.at)
    × ((link : List Tick)
    → IsReceiving g.C.LinkBox g.C.CountingBox.counting g.V.Device l.fn.self l.fn.waiting.items link
    → IsReceiving g.C.LinkBox g.C.CountingBox.counting g.V.Device l.self l.waiting.items
    (link ++ take l.at (run_ticks l.run)))

abbrev pub decreases-loop-at : goal.decreases-loop-at
decreases-loop-at g l = length (run_ticks l.run) - l.at
