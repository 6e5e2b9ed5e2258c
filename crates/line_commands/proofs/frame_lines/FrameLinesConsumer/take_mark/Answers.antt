use Rattle.line_commands.specs.{FrameLines.PrintsReads, FrameLines.printing}
use Rattle.line_commands.specs.FrameLinesLaws.{holds-none}
use Rattle.std.proofs.Common.{subst, sym}
use Rattle.tick_drive.proofs.{ItemLaws.ticks_in-mark, Moving.gives_mark}
use Rattle.line_commands.proofs.frame_lines.FrameLinesConsumer.take_mark.Goals as goal

pub returns : goal.returns
returns g c = gives_mark (printing g.V.Device g.O.Sink) _ (holds-none g.V.Device g.O.Sink) tt
    (λ start items before. subst (PrintsReads g.V.Device g.O.Sink _ start)
    (sym (ticks_in-mark items)) before)
