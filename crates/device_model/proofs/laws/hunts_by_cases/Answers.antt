use Rattle.device_model.proofs.HuntCases.{by_cases}
use Rattle.device_model.proofs.laws.hunts_by_cases.Goals as goal

pub returns : goal.returns
returns g c = λ x.
    by_cases g.R.Hunted.FIRST g.R.Hunted.SECOND g.R.LineRules.rules g.R.LineRules.headed
    g.met.R.Hunted.hunted x
