use Rattle.std.proofs.Common.{◌≡◌, ◌+◌, length}
use Rattle.line_commands.specs.KeptBox.{IsSteady, ticks_kept}
use Rattle.line_commands.proofs.kept_box.turn_tests.take_bytes.Given as goal

abbrev pub invariant-loop-left : goal.invariant-loop-left
invariant-loop-left g l =
    (ticks_kept l.kept + length l.left ≡ ticks_kept l.fn.kept + length l.fn.bytes)
    × IsSteady g.B.LinkBox g.B.LineBox.line_of l.kept

abbrev pub decreases-loop-left : goal.decreases-loop-left
decreases-loop-left g l = length l.left
