use Rattle.{line_rules.specs.Crc.crc, std.proofs.Common.◌≡◌, std.proofs.Common.length}
use Rattle.line_rules.proofs.crc_tables.crc_by_tables.Given as goal

abbrev pub invariant-loop-together : goal.invariant-loop-together
invariant-loop-together g l =
    crc g.row.POLY l.register l.following ≡ crc g.row.POLY l.fn.r l.bytes

abbrev pub decreases-loop-together : goal.decreases-loop-together
decreases-loop-together g l = length l.following
