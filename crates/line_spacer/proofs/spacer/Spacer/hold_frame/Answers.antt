use Rattle.std.proofs.Common.{◌∙◌, ◌≤◌, take, arith}
use Rattle.device_model.specs.Frames.{FrameRead}
use Rattle.line_spacer.proofs.Keeping.{held-sent, none-left}
use Rattle.line_spacer.proofs.spacer.Spacer.hold_frame.Goals as goal

pub returns-clause-lent : goal.returns-clause-lent
returns-clause-lent g c =
    let old = c.args.self.now in
    none-left old.before old.sent old.size old.room c.fill_front-self.new.room old.grows old.within
    c.requires.free

pub returns-clause-sent : goal.returns-clause-sent
returns-clause-sent g c = λ start step s has.
    let old = c.args.self.now in
    let read : FrameRead = record { start = start; frame = g.V.Device.lent old.device } in
    let over : old.size ≤ old.sent = omega (arith, c.requires.free, old.grows) in
    held-sent g.row.GAP old.queue.capacity step s read old.ready old.size old.sent old.pause
    old.room old.queue.frames (omega arith) has c.requires.few c.requires.none over
    (take c.fill_front-self.result c.fill_front-self.new.room)
    (c.fill_front-self.ensures.front ∙ c.frame_bytes.ensures.bytes)
