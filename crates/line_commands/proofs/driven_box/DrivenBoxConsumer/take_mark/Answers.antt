use Rattle.line_commands.{proofs.Begun.drives_at_mark, specs.DrivenBox.driven_by}
use Rattle.{line_commands.specs.DrivenBox.holds-none, tick_drive.proofs.Moving.gives_mark}
use Rattle.line_commands.proofs.driven_box.DrivenBoxConsumer.take_mark.Goals as goal

pub returns : goal.returns
returns g c = gives_mark (driven_by g.B.LinkBox g.B.LineBox.line_of g.O.Sink g.L.Sink g.D.SlotDisk) _
    (holds-none g.B.LinkBox g.B.LineBox.line_of g.O.Sink g.L.Sink g.D.SlotDisk g.met.D.SlotDisk.only_now)
    c.requires.able (λ origin items before. drives_at_mark g.B.LinkBox g.B.LineBox.line_of _ origin _ items before)
