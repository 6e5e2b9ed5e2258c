use Rattle.{hex.specs.Hex.is_hex_digit, std.proofs.Common.take, std.specs.List.AllPass}
use Rattle.command_ends.proofs.key_text.digit_count.Given as goal

abbrev pub invariant-loop-place : goal.invariant-loop-place
invariant-loop-place l = AllPass is_hex_digit (take l.place l.text)
