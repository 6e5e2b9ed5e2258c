use Rattle.line_rules.specs.Crc.{crc}
use Rattle.std.{proofs.Common.◌≡◌, proofs.Common.drop, specs.Prelude.bit_xor}
use Rattle.line_rules.proofs.crc_tables.crc_at_once.Given as goal

abbrev pub invariant-loop-place : goal.invariant-loop-place
invariant-loop-place g l = bit_xor l.behind (crc g.row.POLY 0 (drop l.place l.bytes))
    ≡ crc g.row.POLY 0 (drop 2 l.bytes)
