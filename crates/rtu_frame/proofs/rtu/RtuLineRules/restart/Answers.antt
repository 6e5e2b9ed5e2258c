use Rattle.rtu_frame.proofs.RtuLaws.{rtu_fresh}
use Rattle.rtu_frame.proofs.rtu.RtuLineRules.restart.Goals as goal

pub returns-clause-stands : goal.returns-clause-stands
returns-clause-stands c = rtu_fresh
