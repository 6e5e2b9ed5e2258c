use Rattle.receiver_laws.proofs.Accounting.{rising-accounted}
use Rattle.receiver_laws.proofs.OverUptimes.{accounted-over, share-go_on}
use Rattle.receiver_laws.proofs.uptime_laws.uptimes_are_accounted_for.Goals as goal

pub returns-clause-over : goal.returns-clause-over
returns-clause-over g c = λ profile seal_floor check_floor seals checks go_on.
    accounted-over profile g.R.LineRules.rules g.R.LineRules.lawful seal_floor check_floor seals
    checks go_on

pub returns-clause-on_a_disk : goal.returns-clause-on_a_disk
returns-clause-on_a_disk g c = λ frames link begins floor uptimes below share.
    share-go_on frames link begins floor uptimes below share

pub returns-clause-rising : goal.returns-clause-rising
returns-clause-rising g c = λ seal_floor check_floor sealed_ones passed_ones sealing passing.
    rising-accounted seal_floor check_floor sealed_ones passed_ones sealing passing
