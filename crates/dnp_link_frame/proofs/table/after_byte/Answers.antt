use Rattle.{dnp_link_frame.proofs.Tables.dnp_tables, line_rules.proofs.CrcLaws.crc-one}
use Rattle.std.proofs.Common.{◌∙◌}
use Rattle.dnp_link_frame.proofs.table.after_byte.Goals as goal

pub step_by_table-requires : goal.step_by_table-requires
step_by_table-requires c = dnp_tables

pub returns : goal.returns
returns c = c.step_by_table.ensures ∙ crc-one 0xA6BC c.args.register c.args.byte
