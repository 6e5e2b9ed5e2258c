use Rattle.device_model.specs.Frames.{FrameRead}
use Rattle.line_spacer.proofs.Early.{early-sent, early-takes, early-pending}
use Rattle.line_spacer.{proofs.Keeping.next-append, specs.Owing.busy_ticks, specs.Stands.HasSent}
use Rattle.line_spacer.specs.Stands.{spaced_frame_at, frames_waiting, unsent_of, taken_in, with_next}
use Rattle.std.proofs.Common.{◌∙◌, ◌<◌, ◌≤◌, ◌+◌, ◌-◌, ◌++◌, [], ◌∷◌, length, sym, ap, subst, arith}
use Rattle.line_spacer.proofs.spacer.Spacer.queue_read.Goals as goal

pub returns-clause-owes : goal.returns-clause-owes
returns-clause-owes g c = λ is cap start line ticks long owes.
    let device = g.V.Device in
    let old = c.args.self.now in
    let gap = g.row.GAP in
    let lent = device.lent old.device in
    let frame : FrameRead = record { start = start; frame = lent } in
    let unsent = unsent_of old.ready old.sent (spaced_frame_at old) in
    let waiting = frames_waiting old in
    let step = length line + (length ticks - 1) in
    let few : length waiting < cap =
    omega (
      arith,
      c.waiting.ensures.queued,
      c.capacity.ensures,
      c.if-waiting-capacity.false,
      owes.room,
    ) in
    let early : length line ≤ step = omega arith in
    let busy : step + 1 ≤ length line + busy_ticks old =
    omega (arith, c.busy.ensures, c.if-busy-owed.false, long, c.requires) in
    let after = taken_in gap cap step owes.made (frame ∷ []) in
    let sent = early-sent gap cap (length line) step owes.made frame unsent old.pause waiting owes.sent
    early few busy in
    let takes = early-takes gap cap (length line) step owes.made frame unsent old.pause waiting
    owes.sent early few busy in
    record {
      heard = owes.heard;
      room = c.push_back.ensures.capacity ∙ owes.room;
      made = after;
      sent = subst (λ q. HasSent gap (length line) after.accepted unsent old.pause q)
          (sym (ap (λ q. with_next old.ready (spaced_frame_at old) q)
          (c.push_back.ensures.frames ∙ ap (λ x. old.queue.frames ++ x ∷ [])
          c.frame_bytes.ensures.bytes)
          ∙ next-append old.ready (spaced_frame_at old) lent old.queue.frames)) sent;
      pending = early-pending device.reads gap cap line ticks owes.made (frame ∷ []) owes.pending
          takes;
    }
