use Rattle.std.proofs.Common.{refl, arith}
use Rattle.device_model.proofs.RtuFamilyLaws.{nothing-heard, nothing-read}
use Rattle.device_model.proofs.rtu_family.RtuFamily.new.Goals as goal

pub returns-clause-stands : goal.returns-clause-stands
returns-clause-stands c =
    nothing-heard c.args.cut c.args.gap _ (omega arith) c.new.ensures.cut c.new.ensures.quiet refl
    refl

pub returns-clause-nothing : goal.returns-clause-nothing
returns-clause-nothing c = nothing-read c.args.cut c.args.gap
