use Rattle.device_model.specs.HuntFamily.{hunt_family}
use Rattle.line_spacer.specs.Spacing.{accepted_of}
use Rattle.spacer_laws.proofs.Leaving.{hunt-leave, left-by}
use Rattle.std.proofs.Common.{◌++◌, arith, length}
use Rattle.yasir_ticks.specs.Ticks.{silent}
use Rattle.spacer_laws.proofs.laws.hunted_accepted_frames_leave.Goals as goal

pub returns : goal.returns
returns g c = λ cut gap cap line rest fit enough.
    left-by (length (line ++ silent rest))
    (accepted_of (hunt_family g.R.Hunted.FIRST g.R.Hunted.SECOND g.R.LineRules.rules cut) gap cap
    (line ++ silent rest))
    (hunt-leave g.R.Hunted.FIRST g.R.Hunted.SECOND g.R.LineRules.rules g.R.LineRules.lawful
    g.R.LineRules.framed gap cut cap line rest 0 fit (omega (arith, enough)))
