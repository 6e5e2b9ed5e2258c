use Rattle.std.proofs.Common.{◌≡◌, ◌+◌, ◌-◌, ◌≤◌, ◌++◌, List}
use Rattle.trial_session.specs.Sides.{SideHasHeard}
use Rattle.yasir_ticks.specs.{Ticks.silent, declared.tick.Tick.Tick}
use Rattle.trial_session.proofs.listening.Listening.wait.Given as goal

abbrev pub invariant-loop-at : goal.invariant-loop-at
invariant-loop-at g l =
    (l.at ≤ l.ticks)
    × (l.self.read ≤ g.V.Device.taken l.self.device)
    × (g.V.Device.taken l.self.device ≡ g.V.Device.taken l.fn.self.device + l.at)
    × ((line : List Tick) → SideHasHeard g.V.Device l.fn.self line
    → SideHasHeard g.V.Device l.self (line ++ silent l.at))

abbrev pub decreases-loop-at : goal.decreases-loop-at
decreases-loop-at g l = l.ticks - l.at
