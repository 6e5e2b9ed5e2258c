use Rattle.frame_ending.proofs.Longer.{extends}
use Rattle.link_box.proofs.{CheckCausality.checker-causal, SealCausality.sealer-causal}
use Rattle.stations.proofs.{Causality.shared-causal, Blind.checks-blind, Blind.seals-blind}
use Rattle.stations.specs.Shared.{shared, at_floors, sealing_box, checking_box}
use Rattle.stations.proofs.laws.longer_shared_lines.Goals as goal

pub returns-clause-seals : goal.returns-clause-seals
returns-clause-seals g c = λ station profile floors line more.
    let rules = g.R.LineRules.rules in
    let lawful = g.R.LineRules.lawful in
    extends (shared station rules (sealing_box profile rules))
    (shared-causal station rules (sealing_box profile rules) (sealer-causal profile rules lawful)
    (seals-blind profile rules lawful)) (at_floors floors) line more

pub returns-clause-checks : goal.returns-clause-checks
returns-clause-checks g c = λ station profile timely floors link more.
    let rules = g.R.LineRules.rules in
    let lawful = g.R.LineRules.lawful in
    let headed = g.R.LineRules.headed in
    extends (shared station rules (checking_box profile rules))
    (shared-causal station rules (checking_box profile rules)
    (checker-causal profile rules lawful headed timely)
    (checks-blind profile rules lawful headed)) (at_floors floors) link more
