use Rattle.line_commands.proofs.Settled.{settle_stops, hand_out_went, hand_out_stops}
use Rattle.line_commands.specs.BoxLines.{state_of_lines}
use Rattle.line_commands.proofs.box_lines.BoxLines.hand_out.Goals as goal

pub returns-in-Err : goal.returns-in-Err
returns-in-Err g c = let did = c.in-Err.ensures in
    settle_stops g.B.LinkBox g.B.LineBox.line_of g.O.Sink g.L.Sink g.D.SlotDisk
    (state_of_lines c.args.self.now c.args.out.now c.args.log.now c.args.disk.now) c.requires.ready
    c.settle_all.new.self c.settle_all.new.disk did.link did.not_below did.safe did.any_moment
    _ did.failed did.cause

pub returns-in-Ok-hand_out : goal.returns-in-Ok-hand_out
returns-in-Ok-hand_out g c = let did = c.in-Ok.ensures in
    hand_out_went g.B.LinkBox g.B.LineBox.line_of g.O.Sink g.L.Sink g.D.SlotDisk
    (state_of_lines c.args.self.now c.args.out.now c.args.log.now c.args.disk.now) c.requires.ready
    c.settle_all.new.self c.settle_all.new.disk did.link did.not_below did.safe did.any_moment
    did.settled did.number did.stands did.cause c.hand_out.new.self c.hand_out.new.out
    c.hand_out.new.log c.in-Ok-hand_out.ensures

pub returns-in-Err-hand_out : goal.returns-in-Err-hand_out
returns-in-Err-hand_out g c = let did = c.in-Ok.ensures in
    hand_out_stops g.B.LinkBox g.B.LineBox.line_of g.O.Sink g.L.Sink g.D.SlotDisk
    (state_of_lines c.args.self.now c.args.out.now c.args.log.now c.args.disk.now) c.requires.ready
    c.settle_all.new.self c.settle_all.new.disk did.link did.not_below did.safe did.any_moment
    did.settled did.number did.stands did.cause c.hand_out.new.self c.hand_out.new.out
    c.hand_out.new.log c.in-Err-hand_out.field-0 c.in-Err-hand_out.ensures
