use Rattle.device_model.specs.{RtuFamily.rtu_family_reads, RtuReads.rtu_reads}
use Rattle.line_spacer.specs.Spacing.{accepted_of}
use Rattle.spacer_laws.proofs.Leaving.{left-by, rtu-leave}
use Rattle.std.proofs.Common.{◌++◌, arith, length, suc}
use Rattle.yasir_ticks.specs.Ticks.{silent}
use Rattle.spacer_laws.proofs.laws.accepted_frames_leave.Goals as goal

pub returns-clause-rtu : goal.returns-clause-rtu
returns-clause-rtu c = λ gap cap line rest enough.
    left-by (length (line ++ silent rest)) (accepted_of rtu_reads gap cap (line ++ silent rest))
    (rtu-leave 4 2 gap cap line rest 0 (omega (arith, enough)))

pub returns-clause-rtu_family : goal.returns-clause-rtu_family
returns-clause-rtu_family c = λ cut pause gap cap line rest enough.
    left-by (length (line ++ silent rest))
    (accepted_of (rtu_family_reads cut pause) gap cap (line ++ silent rest))
    (rtu-leave cut (suc pause) gap cap line rest 0 (omega (arith, enough)))
