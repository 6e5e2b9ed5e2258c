use Rattle.std.proofs.Common.{◌≡◌, ◌≤◌, ◌+◌, ◌-◌, ℕ}
use Rattle.poll_session.specs.Sessions.{IsSetUp, MayGoOnPolling, HasRunPolls}
use Rattle.poll_session.proofs.session.PollSession.ask_all.Given as goal

abbrev pub invariant-loop-self : goal.invariant-loop-self
invariant-loop-self g l =
    MayGoOnPolling g.S.LinkBox g.C.LinkBox g.X.FrameBox g.Y.FrameBox g.V.Device l.self
    × ((delay bound : ℕ) → IsSetUp l.fn.self delay bound → IsSetUp l.self delay bound)
    × ((seed : ℕ) → HasRunPolls g.S.LinkBox g.C.LinkBox g.X.FrameBox g.Y.FrameBox g.V.Device
    g.R.DrawnFrames.drawing seed l.fn.self
    → HasRunPolls g.S.LinkBox g.C.LinkBox g.X.FrameBox g.Y.FrameBox g.V.Device
    g.R.DrawnFrames.drawing seed l.self)
    × (l.self.ticks ≤ l.most)

abbrev pub decreases-loop-self : goal.decreases-loop-self
decreases-loop-self g l = l.most - l.self.ticks
