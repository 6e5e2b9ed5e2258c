use Rattle.std.proofs.Common.{◌≡◌, ◌+◌, ◌-◌, ◌≤◌, ◌++◌, List, length, take}
use Rattle.trial_session.specs.{Links.link_sent, Sides.SideMayTake, Sides.SideHasSent}
use Rattle.yasir_ticks.specs.{TickRun.run_ticks, declared.tick.Tick.Tick}
use Rattle.trial_session.proofs.side.Side.forward.Given as goal

abbrev pub invariant-loop-at : goal.invariant-loop-at
invariant-loop-at g l =
    (l.at ≤ length (run_ticks l.run))
    × SideMayTake g.X.LinkBox l.self
    × (g.X.LinkBox.taken l.self.line_box ≡ g.X.LinkBox.taken l.fn.self.line_box + l.at)
    × (l.link.len ≡ l.fn.link.len + l.at)
    × ((line more : List Tick)
    → SideHasSent g.X.LinkBox g.X.CountingBox.counting l.fn.self line more (link_sent l.fn.link)
    → SideHasSent g.X.LinkBox g.X.CountingBox.counting l.self line
    (more ++ take l.at (run_ticks l.run)) (link_sent l.link))

abbrev pub decreases-loop-at : goal.decreases-loop-at
decreases-loop-at g l = length (run_ticks l.run) - l.at
