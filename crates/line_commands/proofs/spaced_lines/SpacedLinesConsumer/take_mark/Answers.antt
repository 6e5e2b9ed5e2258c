use Rattle.line_commands.specs.{SpacedLines.SpacesTicks, SpacedLines.spacing}
use Rattle.line_commands.specs.SpacedLinesLaws.{holds-none}
use Rattle.std.proofs.Common.{subst, sym}
use Rattle.tick_drive.proofs.{ItemLaws.ticks_in-mark, Moving.gives_mark}
use Rattle.line_commands.proofs.spaced_lines.SpacedLinesConsumer.take_mark.Goals as goal

pub returns : goal.returns
returns g c = gives_mark (spacing g.B.LineSpacer g.O.Sink g.L.Sink) _
    (holds-none g.B.LineSpacer g.O.Sink g.L.Sink) c.requires.able
    (λ start items before. subst (SpacesTicks g.B.LineSpacer g.O.Sink g.L.Sink _ start)
    (sym (ticks_in-mark items)) before)
