use Rattle.std.proofs.Common.{◌∙◌, length, sym, ap}
use Rattle.line_spacer.proofs.CutBytes.{count-cut}
use Rattle.line_spacer.proofs.frame_queue.FrameQueue.len.Goals as goal

pub returns-clause-count : goal.returns-clause-count
returns-clause-count c =
    c.len.ensures.len
    ∙ (sym (count-cut c.self.inside.lengths.items c.self.inside.bytes.items)
    ∙ ap (λ q. length q.frames) c.self.view_is)
