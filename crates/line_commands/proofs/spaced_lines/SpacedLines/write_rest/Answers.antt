use Rattle.line_commands.proofs.Owed.{nothing_owed}
use Rattle.line_commands.proofs.spaced_lines.SpacedLines.write_rest.Goals as goal

pub returns-then-self-eq0 : goal.returns-then-self-eq0
returns-then-self-eq0 g c =
    nothing_owed g.B.LineSpacer g.O.Sink g.L.Sink _ c.if-self-eq0.true c.requires
