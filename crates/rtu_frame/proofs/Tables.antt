-- The tables of the polynomial A001 are right: each entry is computed.
use Rattle.line_rules.proofs.CrcTableChecks.{tables_agree, tables_right}
use Rattle.line_rules.specs.{Crc.bit_step, Crc.bit_steps, CrcTables.AreCrcTables}
use Rattle.rtu_frame.specs.declared.table.TheConstants.{TABLES}
use Rattle.std.proofs.Common.{◌≡◌, true, refl}

computed : tables_agree 0xA001 TABLES ≡ true
unfolding bit_steps bit_step
computed = refl

pub rtu_tables : AreCrcTables 0xA001 TABLES
rtu_tables = tables_right 0xA001 TABLES computed
