use Rattle.line_commands.proofs.BothKept.{gives-mark}
use Rattle.line_commands.proofs.both_boxes.BothBoxesConsumer.take_mark.Goals as goal

pub returns : goal.returns
returns g c = gives-mark g.S.LinkBox g.S.LineBox.line_of g.C.LinkBox g.C.LineBox.line_of
    c.args.self.now c.requires.able
