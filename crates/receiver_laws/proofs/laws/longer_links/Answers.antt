use Rattle.link_box.proofs.CheckCausality.{checker-extends}
use Rattle.link_box.specs.Checking.{at_floor}
use Rattle.receiver_laws.proofs.Longer.{passed-extends}
use Rattle.receiver_laws.proofs.laws.longer_links.Goals as goal

pub returns-clause-extends : goal.returns-clause-extends
returns-clause-extends g c = λ profile timely floor link more.
    checker-extends profile g.R.LineRules.rules g.R.LineRules.lawful g.R.LineRules.headed timely
    (at_floor floor) link more

pub returns-clause-kept : goal.returns-clause-kept
returns-clause-kept g c = λ profile timely floor link more.
    passed-extends profile g.R.LineRules.rules g.R.LineRules.lawful g.R.LineRules.headed timely
    floor link more
