use Rattle.{line_rules.proofs.CrcLaws.bit_step-masked, std.proofs.Common.arith}
use Rattle.line_rules.proofs.crc_bits.after_bit.Goals as goal

pub returns : goal.returns
returns g c = bit_step-masked _ _ _ (omega arith) (omega arith) c.wrapping_neg-mask.ensures
