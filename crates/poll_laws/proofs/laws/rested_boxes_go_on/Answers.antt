use Rattle.poll_laws.proofs.GoingOn.{goes-on}
use Rattle.poll_laws.proofs.laws.rested_boxes_go_on.Goals as goal

pub returns : goal.returns
returns g c = λ end before w most tags timely lack rested fits is all.
    goes-on g.R.LineRules.rules g.R.LineRules.lawful g.R.LineRules.headed most lack end tags timely
    before rested fits w is all
