use Rattle.std.proofs.Common.{◌≤◌, ◌-◌, [], length, take}
use Rattle.device_model.specs.HuntingDevice.{HuntTakesRun}
use Rattle.device_model.proofs.hunting.HuntingDeviceDevice.hear.Given as goal

abbrev pub invariant-loop-taken : goal.invariant-loop-taken
invariant-loop-taken g l = (l.taken ≤ length l.bytes)
    × HuntTakesRun g.R.LineRules g.R.Hunted.FIRST g.R.Hunted.SECOND l.fn.self l.self l.fn.self.ticks
    (take l.taken l.bytes) []

abbrev pub decreases-loop-taken : goal.decreases-loop-taken
decreases-loop-taken g l = length l.bytes - l.taken
