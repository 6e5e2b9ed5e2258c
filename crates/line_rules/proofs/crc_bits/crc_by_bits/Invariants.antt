use Rattle.{line_rules.specs.Crc.crc, std.proofs.Common.◌≡◌, std.proofs.Common.drop}
use Rattle.line_rules.proofs.crc_bits.crc_by_bits.Given as goal

abbrev pub invariant-loop-byte : goal.invariant-loop-byte
invariant-loop-byte g l =
    crc g.row.POLY l.register (drop l.byte-index l.bytes) ≡ crc g.row.POLY l.fn.first l.bytes
