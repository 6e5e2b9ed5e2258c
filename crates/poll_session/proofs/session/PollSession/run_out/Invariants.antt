use Rattle.std.proofs.Common.{◌≡◌, ◌≤◌, ◌+◌, ◌-◌, ℕ}
use Rattle.poll_session.specs.Sessions.{IsSetUp, MayGoOnPolling, HasRunPolls}
use Rattle.poll_session.proofs.session.PollSession.run_out.Given as goal

abbrev pub invariant-loop : goal.invariant-loop
invariant-loop g l =
    MayGoOnPolling g.S.LinkBox g.C.LinkBox g.X.FrameBox g.Y.FrameBox g.V.Device l.self
    × ((delay bound : ℕ) → IsSetUp l.fn.self delay bound → IsSetUp l.self delay bound)
    × ((seed : ℕ) → HasRunPolls g.S.LinkBox g.C.LinkBox g.X.FrameBox g.Y.FrameBox g.V.Device
    g.R.DrawnFrames.drawing seed l.fn.self
    → HasRunPolls g.S.LinkBox g.C.LinkBox g.X.FrameBox g.Y.FrameBox g.V.Device
    g.R.DrawnFrames.drawing seed l.self)
    × (l.self.ticks ≡ l.fn.self.ticks + l.counter)
    × (l.fn.self.master.asked ≤ l.self.master.asked)
