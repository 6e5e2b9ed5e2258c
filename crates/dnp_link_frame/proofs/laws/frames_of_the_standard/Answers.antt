use Rattle.dnp_link_frame.proofs.FrameLaws.{is_frame-frame, frame-is_frame, good_header-true}
use Rattle.dnp_link_frame.proofs.FrameLaws.{good_header-from, right_ending-true, right_ending-from}
use Rattle.dnp_link_frame.proofs.laws.frames_of_the_standard.Goals as goal

pub returns-clause-frames : goal.returns-clause-frames
returns-clause-frames c = λ x bytes. (is_frame-frame x bytes, frame-is_frame x)

pub returns-clause-headers : goal.returns-clause-headers
returns-clause-headers c = λ x bytes. (good_header-true x bytes, good_header-from x)

pub returns-clause-right_endings : goal.returns-clause-right_endings
returns-clause-right_endings c = λ x. (right_ending-true x, right_ending-from x)
