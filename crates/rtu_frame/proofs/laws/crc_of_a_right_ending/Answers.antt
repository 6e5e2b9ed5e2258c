use Rattle.rtu_frame.proofs.RtuLaws.{crc_rtu-zero, crc_rtu-right}
use Rattle.rtu_frame.proofs.laws.crc_of_a_right_ending.Goals as goal

pub returns : goal.returns
returns c = λ x bytes. (crc_rtu-zero x bytes, crc_rtu-right x bytes)
