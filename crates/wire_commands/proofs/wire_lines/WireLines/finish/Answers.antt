use Rattle.wire_commands.proofs.Made.{texts-of}
use Rattle.wire_commands.proofs.wire_lines.WireLines.finish.Goals as goal

pub returns-in-Ok-finish : goal.returns-in-Ok-finish
returns-in-Ok-finish g c = λ side waits sent_setup got_setup device link made. (
  record {
    link = c.in-Ok.link.items;
    device = c.in-Ok-finish.device.items;
    notes = c.args.self.notes.items;
  },
  c.new.ensures,
  texts-of g.S.LinkBox g.S.LineBox.line_of g.C.LinkBox g.C.LineBox.line_of side waits sent_setup
      got_setup c.args.self device link made c.in-Ok.link.items c.in-Ok-finish.device.items
      c.in-Ok.ensures c.in-Ok-finish.ensures,
)
