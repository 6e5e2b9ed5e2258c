use Rattle.line_spacer.{proofs.CutBytes.cut-bytes, specs.FrameQueue.bytes_of}
use Rattle.std.proofs.Common.{◌∙◌, sym, ap}
use Rattle.line_spacer.proofs.frame_queue.FrameQueue.bytes_waiting.Goals as goal

pub returns : goal.returns
returns c =
    c.len.ensures.len
    ∙ (sym (cut-bytes c.self.inside.lengths.items c.self.inside.bytes.items c.self.invariant.are)
    ∙ ap (λ q. bytes_of q.frames) c.self.view_is)
