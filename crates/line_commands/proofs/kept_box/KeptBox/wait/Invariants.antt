use Rattle.line_commands.specs.KeptBox.{KeepsWaiting}
use Rattle.line_commands.proofs.kept_box.KeptBox.wait.Given as goal

abbrev pub invariant-loop-left : goal.invariant-loop-left
invariant-loop-left g l = record {
  waits : KeepsWaiting g.B.LinkBox g.B.LineBox.line_of l.fn.self l.self l.ticks l.left;
}

abbrev pub decreases-loop-left : goal.decreases-loop-left
decreases-loop-left g l = l.left
