use Rattle.rtu_frame.proofs.Tables.{rtu_tables}
use Rattle.rtu_frame.proofs.table.after_bytes.Goals as goal

pub crc_by_tables-requires : goal.crc_by_tables-requires
crc_by_tables-requires c = rtu_tables
