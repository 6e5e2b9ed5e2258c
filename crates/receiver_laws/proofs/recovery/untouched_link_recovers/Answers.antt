use Rattle.receiver_laws.proofs.Recovering.{recovers}
use Rattle.receiver_laws.proofs.recovery.untouched_link_recovers.Goals as goal

pub returns-clause-recovers : goal.returns-clause-recovers
returns-clause-recovers g c = λ profile tags some most lack seal_floor check_floor within line link
    ticks tick alone. recovers profile tags some g.R.LineRules.rules g.R.LineRules.lawful
    g.R.LineRules.framed most lack seal_floor check_floor within line link ticks tick alone
