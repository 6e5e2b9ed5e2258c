use Rattle.session_audit.proofs.Unlisting.{unlisted-whole, unlisted-ended}
use Rattle.std.proofs.Common.{arith}
use Rattle.session_audit.proofs.unlisted.end_without_memory.Goals as goal

pub drive_with_room-requires : goal.drive_with_room-requires
drive_with_room-requires g c = record { room = omega arith; able = tt }

pub returns-in-Whole-clause-ends : goal.returns-in-Whole-clause-ends
returns-in-Whole-clause-ends g c = λ verdict_on_three.
    unlisted-whole verdict_on_three _ _ _ _ c.in-Whole.ensures.driven

pub returns-in_default-clause-ends : goal.returns-in_default-clause-ends
returns-in_default-clause-ends g c = λ verdict_on_three.
    unlisted-ended verdict_on_three _ _ _ _ _ c.in_default.not-Whole c.drive_with_room.ensures.driven
