use Rattle.live_commands.{proofs.Taken.unsettled, proofs.Taken.unwritten, proofs.Taken.written}
use Rattle.live_commands.specs.Filtering.{outside}
use Rattle.live_commands.proofs.filter.hand_on_all.Goals as goal

pub returns-in-Err : goal.returns-in-Err
returns-in-Err g c = unsettled g.B.LinkBox g.B.LineBox.line_of g.P.Port g.D.SlotDisk
    (outside c.args.lines.now c.args.port.now c.args.disk.now) c.settle.new.self c.settle.new.disk
    c.requires
    c.in-Err.field-0 c.in-Err.ensures

pub returns-in-Err-hand_on : goal.returns-in-Err-hand_on
returns-in-Err-hand_on g c = unwritten g.B.LinkBox g.B.LineBox.line_of g.P.Port g.D.SlotDisk
    (outside c.args.lines.now c.args.port.now c.args.disk.now) c.settle.new.self c.settle.new.disk
    c.requires
    c.in-Ok.ensures c.hand_on.new.port c.note_text.result.now c.tick_text.result.now
    c.in-Err-hand_on.field-0 c.note_text.ensures c.tick_text.ensures c.in-Err-hand_on.ensures.hands
    c.in-Err-hand_on.ensures.cause

pub returns : goal.returns
returns g c = written g.B.LinkBox g.B.LineBox.line_of g.P.Port g.D.SlotDisk
    (outside c.args.lines.now c.args.port.now c.args.disk.now) c.settle.new.self c.settle.new.disk
    c.requires
    c.in-Ok.ensures c.hand_on.new.port c.note_text.result.now c.tick_text.result.now
    c.empty.new.self c.empty.ensures c.note_text.ensures c.tick_text.ensures
    c.in-Ok-hand_on.ensures.hands c.in-Ok-hand_on.ensures.cause
