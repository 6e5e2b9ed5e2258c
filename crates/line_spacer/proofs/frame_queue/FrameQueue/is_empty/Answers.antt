use Rattle.std.proofs.Common.{◌∙◌, ◌==◌, length, sym, ap}
use Rattle.line_spacer.proofs.CutBytes.{count-cut}
use Rattle.line_spacer.proofs.frame_queue.FrameQueue.is_empty.Goals as goal

pub returns : goal.returns
returns c =
    c.is_empty.ensures
    ∙ ap (λ n. n == 0) (sym (count-cut c.self.inside.lengths.items c.self.inside.bytes.items)
    ∙ ap (λ q. length q.frames) c.self.view_is)
