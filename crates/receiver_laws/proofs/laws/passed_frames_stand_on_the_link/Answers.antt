use Rattle.receiver_laws.proofs.Rising.{have_passed}
use Rattle.receiver_laws.proofs.laws.passed_frames_stand_on_the_link.Goals as goal

pub returns : goal.returns
returns g c = λ profile floor link.
    have_passed profile g.R.LineRules.rules g.R.LineRules.lawful floor link
