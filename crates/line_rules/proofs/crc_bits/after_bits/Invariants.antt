use Rattle.{line_rules.specs.Crc.bit_steps, std.proofs.Common.◌≡◌, std.proofs.Common.◌-◌}
use Rattle.line_rules.proofs.crc_bits.after_bits.Given as goal

abbrev pub invariant-loop : goal.invariant-loop
invariant-loop g l = bit_steps g.row.POLY (l.fn.count - l.counter) l.shifted
    ≡ bit_steps g.row.POLY l.fn.count l.fn.register
