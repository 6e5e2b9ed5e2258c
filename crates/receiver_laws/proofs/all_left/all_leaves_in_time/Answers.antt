use Rattle.receiver_laws.proofs.AllLeft.{all-left}
use Rattle.receiver_laws.proofs.all_left.all_leaves_in_time.Goals as goal

pub returns : goal.returns
returns g c = λ profile timely most lack floor link ticks rest more long.
    all-left profile g.R.LineRules.rules g.R.LineRules.lawful g.R.LineRules.headed timely floor link
    most lack ticks rest long more
