use Rattle.std.proofs.Common.{◌≡◌, ◌+◌, ◌*◌, ◌≤◌, ◌++◌, length}
use Rattle.hex.specs.Hex.{encode_lower}
use Rattle.yasir_ticks.proofs.hex_digits.push_digits.Given as goal

abbrev pub invariant-loop-front : goal.invariant-loop-front
invariant-loop-front g l = (length l.line.items + 2 * length l.rest ≤ g.row.CAP)
    × (l.line.items ++ encode_lower l.rest ≡ l.fn.line.items ++ encode_lower l.fn.bytes)

abbrev pub decreases-loop-front : goal.decreases-loop-front
decreases-loop-front g l = length l.rest
