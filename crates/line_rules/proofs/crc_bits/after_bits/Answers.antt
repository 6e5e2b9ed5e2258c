use Rattle.std.proofs.Common.{◌∙◌, sym, arith}
use Rattle.line_rules.proofs.CrcLaws.{bit_steps-next, bit_steps-done}
use Rattle.line_rules.proofs.crc_bits.after_bits.Goals as goal

pub loop-preserved : goal.loop-preserved
loop-preserved g c =
    bit_steps-next g.row.POLY c.args.count c.loop.counter c.loop.shifted _ (omega arith)
    c.after_bit-shifted.ensures
    ∙ c.loop.invariant

pub returns : goal.returns
returns g c = sym (bit_steps-done g.row.POLY c.args.count c.loop.counter c.loop.shifted
    (omega arith))
    ∙ c.loop.invariant
