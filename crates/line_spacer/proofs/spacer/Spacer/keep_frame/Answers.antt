use Rattle.std.proofs.Common.{◌≤◌, ◌<◌, length, arith}
use Rattle.device_model.specs.Frames.{FrameRead}
use Rattle.line_spacer.specs.Stands.{unsent_of, spaced_frame_at, frames_waiting}
use Rattle.line_spacer.proofs.Arriving.{kept-takes, lost-sent, lost-takes}
use Rattle.line_spacer.proofs.spacer.Spacer.keep_frame.Goals as goal

pub returns-then-waiting-capacity-clause-sent : goal.returns-then-waiting-capacity-clause-sent
returns-then-waiting-capacity-clause-sent g c = λ step s has.
    let old = c.args.self.now in
    let read : FrameRead = record { start = c.args.start; frame = g.V.Device.lent old.device } in
    let many : old.queue.capacity ≤ length (frames_waiting old) =
    omega (
      arith,
      c.waiting-waiting.ensures.queued,
      c.capacity.ensures,
      c.if-waiting-capacity.true,
    ) in
    lost-sent g.row.GAP old.queue.capacity step s read
    (unsent_of old.ready old.sent (spaced_frame_at old)) old.pause (frames_waiting old) has many

pub returns-then-waiting-capacity-clause-takes : goal.returns-then-waiting-capacity-clause-takes
returns-then-waiting-capacity-clause-takes g c = λ step s has.
    let old = c.args.self.now in
    let read : FrameRead = record { start = c.args.start; frame = g.V.Device.lent old.device } in
    let many : old.queue.capacity ≤ length (frames_waiting old) =
    omega (
      arith,
      c.waiting-waiting.ensures.queued,
      c.capacity.ensures,
      c.if-waiting-capacity.true,
    ) in
    lost-takes g.row.GAP old.queue.capacity step s read
    (unsent_of old.ready old.sent (spaced_frame_at old)) old.pause (frames_waiting old) has many

pub returns-then-waiting-gt0-clause-sent : goal.returns-then-waiting-gt0-clause-sent
returns-then-waiting-gt0-clause-sent g c = λ step s has.
    c.queue_frame.ensures.sent c.args.start step s has

pub returns-then-waiting-gt0-clause-takes : goal.returns-then-waiting-gt0-clause-takes
returns-then-waiting-gt0-clause-takes g c = λ step s has.
    let old = c.args.self.now in
    let read : FrameRead = record { start = c.args.start; frame = g.V.Device.lent old.device } in
    let few : length (frames_waiting old) < old.queue.capacity =
    omega (
      arith,
      c.waiting-waiting.ensures.queued,
      c.capacity.ensures,
      c.if-waiting-capacity.false,
    ) in
    kept-takes g.row.GAP old.queue.capacity step s read
    (unsent_of old.ready old.sent (spaced_frame_at old)) old.pause (frames_waiting old) has few

pub returns-clause-sent : goal.returns-clause-sent
returns-clause-sent g c = λ step s has. c.hold_frame.ensures.sent c.args.start step s has

pub returns-clause-takes : goal.returns-clause-takes
returns-clause-takes g c = λ step s has.
    let old = c.args.self.now in
    let read : FrameRead = record { start = c.args.start; frame = g.V.Device.lent old.device } in
    let few : length (frames_waiting old) < old.queue.capacity =
    omega (
      arith,
      c.waiting-waiting.ensures.queued,
      c.capacity.ensures,
      c.if-waiting-capacity.false,
    ) in
    kept-takes g.row.GAP old.queue.capacity step s read
    (unsent_of old.ready old.sent (spaced_frame_at old)) old.pause (frames_waiting old) has few
