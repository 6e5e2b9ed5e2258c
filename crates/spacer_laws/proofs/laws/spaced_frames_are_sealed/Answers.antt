use Rattle.spacer_laws.proofs.Delivering.{delivers-spaced}
use Rattle.spacer_laws.proofs.laws.spaced_frames_are_sealed.Goals as goal

pub returns : goal.returns
returns g c = λ profile tags some heard sound gap cap floor behind line more rest is.
    delivers-spaced g.R.LineRules.rules g.R.LineRules.framed profile tags some g.R.LineRules.lawful
    heard sound gap cap floor behind line more rest is
