use Rattle.two_wire.proofs.Ends.{hear-each-other}
use Rattle.two_wire.proofs.laws.nobody_talks_at_once.Goals as goal

pub returns : goal.returns
returns g c = λ end w others is shares.
    hear-each-other g.R.LineRules.rules end w is others shares.wires_are shares.turns
