use Rattle.receiver_laws.proofs.OverUptimes.{accounted-for}
use Rattle.receiver_laws.proofs.laws.passed_frames_are_accounted_for.Goals as goal

pub returns : goal.returns
returns g c = λ profile seal_floor check_floor line link.
    accounted-for profile g.R.LineRules.rules g.R.LineRules.lawful seal_floor check_floor line link
