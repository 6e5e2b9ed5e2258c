use Rattle.std.proofs.Common.{◌≡◌, ℕ, ◌*◌, ◌<◌, length, slice_index}
use Rattle.line_rules.specs.Crc.{bit_steps}
use Rattle.line_rules.proofs.crc_table.CrcTable.after_bytes.Given as goal

abbrev pub invariant-loop-byte : goal.invariant-loop-byte
invariant-loop-byte g l = (length l.entries ≡ 256)
    × ((k : ℕ) → k < l.byte → slice_index l.entries k ≡ bit_steps g.row.POLY (8 * l.fn.count) k)
