use Rattle.{line_rules.proofs.CrcLaws.crc-one, rtu_frame.proofs.Tables.rtu_tables}
use Rattle.std.proofs.Common.{◌∙◌}
use Rattle.rtu_frame.proofs.table.after_byte.Goals as goal

pub step_by_table-requires : goal.step_by_table-requires
step_by_table-requires c = rtu_tables

pub returns : goal.returns
returns c = c.step_by_table.ensures ∙ crc-one 0xA001 c.args.register c.args.byte
