use Rattle.std.proofs.Common.{◌≡◌, ◌+◌, ◌-◌, ◌*◌, ◌≤◌, ◌++◌, length}
use Rattle.hex.specs.Hex.{encode_lower}
use Rattle.command_ends.proofs.waiting.append_digits.Given as goal

abbrev pub invariant-loop-front : goal.invariant-loop-front
invariant-loop-front g l = (length l.text.items + 2 * length l.rest ≤ g.row.CAP - 64)
    × (l.text.items ++ encode_lower l.rest ≡ l.fn.text.items ++ encode_lower l.fn.bytes)

abbrev pub decreases-loop-front : goal.decreases-loop-front
decreases-loop-front g l = length l.rest
