use Rattle.line_rules.{proofs.CrcLaws.crc-nil, proofs.CrcLaws.crc-later, specs.Crc.crc}
use Rattle.std.proofs.Common.{◌≡◌, [], arith, sym, ◌∙◌, ap}
use Rattle.std.proofs.lemmas.List.{nil_from_length}
use Rattle.line_rules.proofs.crc_tables.crc_by_tables.Goals as goal

pub loop-together-preserved : goal.loop-together-preserved
loop-together-preserved g c =
    crc-later g.row.POLY c.loop-together.register c.crc_at_once-register.result _ 18
    c.loop-together.following.now _ _
    c.in-Some.ensures.cases.0 c.in-Some.ensures.cases.1 c.crc_at_once-register.ensures
    c.loop-together.invariant

pub returns-in_default-len : goal.returns-in_default-len
returns-in_default-len g c =
    let none : c.loop-together.following.now ≡ [] =
    nil_from_length c.loop-together.following.now (omega (arith, c.in_default.ensures.cases)) in
    sym (crc-nil g.row.POLY c.loop-together.register)
    ∙ (ap (crc g.row.POLY c.loop-together.register) (sym none) ∙ c.loop-together.invariant)
