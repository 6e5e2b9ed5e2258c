use Rattle.dnp_link_frame.proofs.Tables.{dnp_tables, crc-single}
use Rattle.line_rules.{proofs.CrcLaws.crc-nil, specs.Crc.crc}
use Rattle.std.proofs.Common.{◌≡◌, [], arith, sym, ◌∙◌, ap}
use Rattle.std.proofs.lemmas.List.{nil_from_length}
use Rattle.dnp_link_frame.proofs.table.after_bytes.Goals as goal

pub returns-in-0 : goal.returns-in-0
returns-in-0 c =
    let none : c.args.bytes.now ≡ [] = nil_from_length c.args.bytes.now (omega arith) in
    sym (ap (crc 0xA6BC c.args.register) none ∙ crc-nil 0xA6BC c.args.register)

pub returns-in-1 : goal.returns-in-1
returns-in-1 c =
    c.after_byte.ensures ∙ crc-single c.args.register c.args.bytes.now (omega arith)

pub crc_by_tables-requires : goal.crc_by_tables-requires
crc_by_tables-requires c = dnp_tables
