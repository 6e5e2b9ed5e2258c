use Rattle.spacer_laws.proofs.Spaced.{family-spaces_out}
use Rattle.spacer_laws.proofs.laws.hunted_frames_are_spaced.Goals as goal

pub returns : goal.returns
returns g c = λ cut gap cap line wide member.
    family-spaces_out g.R.Hunted.FIRST g.R.Hunted.SECOND g.R.LineRules.rules g.R.LineRules.headed
    g.R.LineRules.framed g.met.R.Hunted.hunted gap wide cut member cap line
