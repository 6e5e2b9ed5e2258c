-- The tables of the polynomial A6BC are right: each entry is computed. Also the register after one
-- byte.
use Rattle.dnp_link_frame.specs.declared.table.TheConstants.{TABLES}
use Rattle.line_rules.proofs.CrcTableChecks.{tables_agree, tables_right}
use Rattle.line_rules.specs.{Crc.bit_step, Crc.bit_steps, CrcTables.AreCrcTables}
use Rattle.line_rules.{proofs.CrcLaws.crc-one, specs.Crc.byte_step, specs.Crc.crc}
use Rattle.std.proofs.Common.{◌≡◌, ℕ, true, List, [], ◌∷◌, length, get_or, refl, arith, sym}

computed : tables_agree 0xA6BC TABLES ≡ true
unfolding bit_steps bit_step
computed = refl

pub dnp_tables : AreCrcTables 0xA6BC TABLES
dnp_tables = tables_right 0xA6BC TABLES computed

pub crc-single : (register : ℕ) (x : List ℕ) → length x ≡ 1
    → byte_step 0xA6BC register (get_or x 0 0) ≡ crc 0xA6BC register x
crc-single register [] one = absurd (omega arith)
crc-single register (b ∷ []) one = sym (crc-one 0xA6BC register b)
crc-single register (b ∷ c ∷ x) one = absurd (omega arith)
