use Rattle.rtu_frame.proofs.RtuLaws.{rtu_ends_right}
use Rattle.rtu_frame.proofs.rtu.RtuLineRules.ends_right.Goals as goal

pub returns : goal.returns
returns c = λ x stands. rtu_ends_right c.args.self.now x stands
