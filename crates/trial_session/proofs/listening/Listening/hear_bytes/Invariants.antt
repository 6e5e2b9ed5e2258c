use Rattle.std.proofs.Common.{◌≡◌, ◌+◌, ◌-◌, ◌≤◌, ◌++◌, List, length, take, map}
use Rattle.trial_session.specs.Sides.{SideHasHeard}
use Rattle.yasir_ticks.specs.declared.tick.Tick.{Tick, TheVariants.Byte}
use Rattle.trial_session.proofs.listening.Listening.hear_bytes.Given as goal

abbrev pub invariant-loop-at : goal.invariant-loop-at
invariant-loop-at g l =
    (l.at ≤ length l.bytes)
    × (l.self.read ≤ g.V.Device.taken l.self.device)
    × (g.V.Device.taken l.self.device ≡ g.V.Device.taken l.fn.self.device + l.at)
    × ((line : List Tick) → SideHasHeard g.V.Device l.fn.self line
    → SideHasHeard g.V.Device l.self (line ++ map (λ b. Byte b) (take l.at l.bytes)))

abbrev pub decreases-loop-at : goal.decreases-loop-at
decreases-loop-at g l = length l.bytes - l.at
