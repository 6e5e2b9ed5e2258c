use Rattle.device_model.specs.HuntFamily.{hunt_family}
use Rattle.spacer_laws.proofs.{Guarding.gives-only-sealed, Guards.family-hears}
use Rattle.spacer_laws.proofs.guard_laws.only_sealed_hunted_frames_are_given.Goals as goal

pub returns : goal.returns
returns g c = λ cut profile gap cap seal_floor check_floor line link wide member.
    gives-only-sealed g.R.LineRules.rules g.R.LineRules.lawful g.R.LineRules.framed
    (hunt_family g.R.Hunted.FIRST g.R.Hunted.SECOND g.R.LineRules.rules cut) 0 profile
    (family-hears g.R.Hunted.FIRST g.R.Hunted.SECOND g.R.LineRules.rules g.R.LineRules.lawful
    g.R.LineRules.headed g.R.LineRules.framed g.R.LineRules.spoiling g.met.R.Hunted.hunted profile
    cut
    member) gap wide cap seal_floor check_floor line link
