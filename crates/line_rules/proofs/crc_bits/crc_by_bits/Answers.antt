use Rattle.line_rules.proofs.CrcLaws.{byte_step_lem, crc-more, crc-all}
use Rattle.{line_rules.specs.Crc.bit_steps, std.proofs.Common.◌∙◌}
use Rattle.std.{proofs.Common.sym, proofs.Common.ap, proofs.Common.arith, specs.Prelude.bit_xor}
use Rattle.line_rules.proofs.crc_bits.crc_by_bits.Goals as goal

pub loop-byte-preserved : goal.loop-byte-preserved
loop-byte-preserved g c =
    crc-more g.row.POLY c.loop-byte.register _ _ c.loop-byte.byte-index c.args.bytes.now
    (omega arith)
    (c.after_bits-register.ensures
    ∙ (ap (λ b. bit_steps g.row.POLY 8 (bit_xor c.loop-byte.register b)) c.from.ensures
    ∙ sym (byte_step_lem g.row.POLY c.loop-byte.register _)))
    c.loop-byte.invariant

pub returns : goal.returns
returns g c =
    crc-all g.row.POLY c.loop-byte.register _ c.loop-byte.byte-index c.args.bytes.now (omega arith)
    c.loop-byte.invariant
