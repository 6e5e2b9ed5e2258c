use Rattle.device_model.specs.HuntFamily.{hunt_family}
use Rattle.spacer_laws.proofs.{GivingUntouched.gives-all, Guards.family-hears}
use Rattle.spacer_laws.proofs.guard_laws.untouched_link_gives_all_hunted.Goals as goal

pub returns : goal.returns
returns g c = λ cut profile tags some floor behind line more rest most gap cap is fits member.
    gives-all profile tags some g.R.LineRules.rules g.R.LineRules.lawful g.R.LineRules.framed
    (hunt_family g.R.Hunted.FIRST g.R.Hunted.SECOND g.R.LineRules.rules cut) 0
    (family-hears g.R.Hunted.FIRST g.R.Hunted.SECOND g.R.LineRules.rules g.R.LineRules.lawful
    g.R.LineRules.headed g.R.LineRules.framed g.R.LineRules.spoiling g.met.R.Hunted.hunted profile
    cut
    member) floor behind line more is most gap cap fits rest
