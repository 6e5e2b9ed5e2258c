use Rattle.{device_model.specs.Frames.FrameRead, line_spacer.proofs.Keeping.queued-sent}
use Rattle.std.proofs.Common.{◌∙◌, ◌++◌, [], ◌∷◌, ap, arith}
use Rattle.line_spacer.proofs.spacer.Spacer.queue_frame.Goals as goal

pub returns-clause-sent : goal.returns-clause-sent
returns-clause-sent g c = λ start step s has.
    let old = c.args.self.now in
    let read : FrameRead = record { start = start; frame = g.V.Device.lent old.device } in
    queued-sent g.row.GAP old.queue.capacity step s read old.ready old.size old.sent old.pause
    old.room old.queue.frames (omega arith) has c.requires.few c.push_back.new.self.frames
    (c.push_back.ensures.frames
    ∙ ap (λ x. old.queue.frames ++ x ∷ []) c.frame_bytes.ensures.bytes)
