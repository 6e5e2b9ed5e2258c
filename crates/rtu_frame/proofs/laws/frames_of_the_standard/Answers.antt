use Rattle.rtu_frame.proofs.FrameLaws.{is_frame-true, is_frame-from, has_right_ending-true}
use Rattle.rtu_frame.proofs.FrameLaws.{has_right_ending-from}
use Rattle.rtu_frame.proofs.laws.frames_of_the_standard.Goals as goal

pub returns-clause-frames : goal.returns-clause-frames
returns-clause-frames c = λ x. (is_frame-true x, is_frame-from x)

pub returns-clause-right_endings : goal.returns-clause-right_endings
returns-clause-right_endings c = λ x. (has_right_ending-true x, has_right_ending-from x)
