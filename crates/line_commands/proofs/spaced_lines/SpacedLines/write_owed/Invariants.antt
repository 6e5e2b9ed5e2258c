use Rattle.line_commands.proofs.Owed.{AreWritten}
use Rattle.line_commands.proofs.spaced_lines.SpacedLines.write_owed.Given as goal

abbrev pub invariant-loop-left : goal.invariant-loop-left
invariant-loop-left g l = AreWritten g.B.LineSpacer g.O.Sink g.L.Sink l.fn.self l.self
    l.fn.self.owed l.left l.read

abbrev pub decreases-loop-left : goal.decreases-loop-left
decreases-loop-left g l = l.left
