use Rattle.{device_model.proofs.RtuRuns.silence-kept, std.proofs.Common.refl}
use Rattle.device_model.proofs.rtu_family.RtuFamily.wait_some.Goals as goal

pub returns-clause-stands : goal.returns-clause-stands
returns-clause-stands c = λ cut gap line heard.
    silence-kept cut gap c.args.self.now _ line c.args.ticks heard c.requires.parts
    c.wait_some.ensures.cut c.wait_some.ensures.quiet refl refl refl refl refl
