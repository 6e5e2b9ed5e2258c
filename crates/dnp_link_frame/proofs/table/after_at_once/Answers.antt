use Rattle.dnp_link_frame.proofs.Tables.{dnp_tables}
use Rattle.dnp_link_frame.proofs.table.after_at_once.Goals as goal

pub crc_at_once-requires-clause-right : goal.crc_at_once-requires-clause-right
crc_at_once-requires-clause-right c = dnp_tables
