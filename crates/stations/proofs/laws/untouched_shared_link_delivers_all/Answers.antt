use Rattle.stations.proofs.Untouched.{seals-in_turn, station-passes, centre-passes}
use Rattle.stations.proofs.laws.untouched_shared_link_delivers_all.Goals as goal

pub returns-clause-seals : goal.returns-clause-seals
returns-clause-seals g c = λ profile tags sized some station floors line more rest is.
    seals-in_turn profile tags sized some g.R.LineRules.rules g.R.LineRules.lawful
    g.R.LineRules.framed station floors line more rest is

pub returns-clause-stations : goal.returns-clause-stations
returns-clause-stations g c = λ profile tags sized some station floors line more rest is i behind
    near. station-passes profile tags sized some g.R.LineRules.rules g.R.LineRules.lawful
    g.R.LineRules.framed station floors line more rest is i behind near

pub returns-clause-centre : goal.returns-clause-centre
returns-clause-centre g c = λ profile tags sized some station floors line more rest is behind near.
    centre-passes profile tags sized some g.R.LineRules.rules g.R.LineRules.lawful
    g.R.LineRules.framed station floors line more rest is behind near
