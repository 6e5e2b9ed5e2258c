use Rattle.line_spacer.proofs.Early.{busy-next, busy-begun}
use Rattle.std.proofs.Common.{◌*◌, ◌≤◌, length, arith}
use Rattle.line_spacer.proofs.spacer.Spacer.busy.Goals as goal

pub returns-then-self : goal.returns-then-self
returns-then-self g c =
    let s = c.args.self.now in
    let gaps : c.saturating_mul-gaps.result ≤ length s.queue.frames * g.row.GAP =
    grind (arith, c.saturating_mul-gaps.ensures, c.len.ensures.count) in
    let most = busy-next g.row.GAP s.size s.sent s.pause s.room s.queue.frames
    c.bytes_waiting.result c.saturating_mul-gaps.result (omega arith) c.bytes_waiting.ensures gaps
    s.ready c.if-self.true in
    grind (
      arith,
      most,
      c.saturating_add-queued.ensures,
      c.saturating_add-behind.ensures,
      c.saturating_add-next.ensures,
      c.saturating_add.ensures,
    )

pub returns : goal.returns
returns g c =
    let s = c.args.self.now in
    let gaps : c.saturating_mul-gaps.result ≤ length s.queue.frames * g.row.GAP =
    grind (arith, c.saturating_mul-gaps.ensures, c.len.ensures.count) in
    let most = busy-begun g.row.GAP s.size s.sent s.pause s.room s.queue.frames
    c.bytes_waiting.result c.saturating_mul-gaps.result (omega arith) c.bytes_waiting.ensures gaps
    s.ready c.if-self.false in
    grind (
      arith,
      most,
      c.saturating_add-queued.ensures,
      c.saturating_add-behind.ensures,
      c.saturating_add-2.ensures,
    )
