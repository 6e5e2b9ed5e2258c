use Rattle.receiver_laws.proofs.Deliveries.{delivers-all}
use Rattle.receiver_laws.proofs.untouched.untouched_link_delivers_all.Goals as goal

pub returns : goal.returns
returns g c = λ profile tags some floor behind line more rest is.
    delivers-all profile tags some g.R.LineRules.rules g.R.LineRules.lawful g.R.LineRules.framed
    floor behind line more rest is
