use Rattle.line_spacer.proofs.Keeping.{one-more, no-more}
use Rattle.line_spacer.{proofs.Sending.waiting-count, specs.Spacing.accepted_of}
use Rattle.line_spacer.specs.Stands.{unsent_of, spaced_frame_at, frames_waiting}
use Rattle.std.proofs.Common.{◌∙◌, length, sym}
use Rattle.line_spacer.proofs.spacer.Spacer.waiting.Goals as goal

pub returns-then-self-clause-queued : goal.returns-then-self-clause-queued
returns-then-self-clause-queued g c =
    let s = c.args.self.now in
    one-more s.ready (spaced_frame_at s) s.queue.frames c.len-queued.result c.if-self.true
    c.len-queued.ensures.count

pub returns-clause-queued : goal.returns-clause-queued
returns-clause-queued g c =
    let s = c.args.self.now in
    no-more s.ready (spaced_frame_at s) s.queue.frames c.len-queued.result c.if-self.false
    c.len-queued.ensures.count

pub returns-then-self-clause-count : goal.returns-then-self-clause-count
returns-then-self-clause-count g c = λ cap line stands.
    let s = c.args.self.now in
    one-more s.ready (spaced_frame_at s) s.queue.frames c.len-queued.result c.if-self.true
    c.len-queued.ensures.count
    ∙ sym (waiting-count g.row.GAP (length line) (accepted_of g.V.Device.reads g.row.GAP cap line)
    (unsent_of s.ready s.sent (spaced_frame_at s)) s.pause (frames_waiting s) stands.sent)

pub returns-clause-count : goal.returns-clause-count
returns-clause-count g c = λ cap line stands.
    let s = c.args.self.now in
    no-more s.ready (spaced_frame_at s) s.queue.frames c.len-queued.result c.if-self.false
    c.len-queued.ensures.count
    ∙ sym (waiting-count g.row.GAP (length line) (accepted_of g.V.Device.reads g.row.GAP cap line)
    (unsent_of s.ready s.sent (spaced_frame_at s)) s.pause (frames_waiting s) stands.sent)
