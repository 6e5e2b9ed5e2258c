use Rattle.line_rules.proofs.CrcLaws.{crc-nil, crc-cons}
use Rattle.line_rules.{proofs.CrcLinear.byte_step-split, specs.Crc.byte_step}
use Rattle.std.proofs.Common.{◌/◌, [], sym, ◌∙◌, ap, arith}
use Rattle.std.specs.Prelude.{bit_xor}
use Rattle.line_rules.proofs.crc_tables.step_by_table.Goals as goal

pub returns : goal.returns
returns g c =
    ap (bit_xor (c.args.r / 256)) c.shifted.ensures
    ∙ (sym (byte_step-split g.row.POLY c.args.r c.args.b (omega arith) (omega arith))
    ∙ (sym (crc-nil g.row.POLY (byte_step g.row.POLY c.args.r c.args.b))
    ∙ sym (crc-cons g.row.POLY c.args.r c.args.b [])))
