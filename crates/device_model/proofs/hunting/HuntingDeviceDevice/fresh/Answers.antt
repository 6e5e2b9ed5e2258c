use Rattle.device_model.proofs.{HuntSteps.heard-nothing, Hunts.hunt-none}
use Rattle.std.proofs.Common.{refl}
use Rattle.device_model.proofs.hunting.HuntingDeviceDevice.fresh.Goals as goal

pub returns-clause-stands : goal.returns-clause-stands
returns-clause-stands g c =
    heard-nothing g.R.LineRules g.R.Hunted.FIRST g.R.Hunted.SECOND g.met.R.Hunted.hunted _
    c.new.ensures refl refl

pub returns-clause-nothing : goal.returns-clause-nothing
returns-clause-nothing g c =
    hunt-none g.R.Hunted.FIRST g.R.Hunted.SECOND g.R.LineRules.rules 0
