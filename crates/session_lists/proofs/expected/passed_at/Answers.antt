use Rattle.device_model.specs.Frames.{FrameRead}
use Rattle.link_format.specs.NumberedFrame.{NumberedFrame}
use Rattle.session_lists.proofs.Due.{frame_at, later-there, starts-in-time}
use Rattle.session_lists.specs.FrameBox.{kept_frames, kept_numbered}
use Rattle.session_lists.specs.Lateness.{read_later}
use Rattle.std.proofs.Common.{◌≡◌, ◌∙◌, ◌+◌, ◌<◌, [], Some, ap, arith, length, sym}
use Rattle.std.proofs.lemmas.{List.length-map, Option.slice_get_past}
use Rattle.session_lists.proofs.expected.passed_at.Goals as goal

pub returns-then-index-len-clause-due : goal.returns-then-index-len-clause-due
returns-then-index-len-clause-due c = λ frames later.
    let all : c.len.result ≡ length frames =
    c.len.ensures.frames (kept_frames later.passed_ones) later.holds
    ∙ length-map later.passed_ones kept_numbered
    ∙ sym (ap length later.are ∙ length-map later.passed_ones (read_later c.args.late)) in
    sym (slice_get_past frames c.args.place (omega (arith, all, c.if-index-len.true)))

pub returns-clause-due : goal.returns-clause-due
returns-clause-due c = λ frames later.
    let d : NumberedFrame = record { number = 0; start = 0; frame = [] } in
    let all : c.len.result ≡ length frames =
    c.len.ensures.frames (kept_frames later.passed_ones) later.holds
    ∙ length-map later.passed_ones kept_numbered
    ∙ sym (ap length later.are ∙ length-map later.passed_ones (read_later c.args.late)) in
    let within : c.args.place < length frames = omega (arith, all, c.if-index-len.false) in
    let start : c.from.result + c.from-2.result ≡ c.args.late + c.head.result.start =
    omega (arith, c.from.ensures, c.from-2.ensures) in
    ap (λ s. Some (frame_at s c.bytes.result.now)) start
    ∙ later-there c.args.late c.args.list.now c.args.place c.head.result c.bytes.result.now d
    frames later within
    (c.head.ensures (kept_frames later.passed_ones) (kept_numbered d) later.holds)
    (c.bytes.ensures.frame (kept_frames later.passed_ones) (kept_numbered d) later.holds)

pub returns-clause-in_time : goal.returns-clause-in_time
returns-clause-in_time c = λ time.
    let d : NumberedFrame = record { number = 0; start = 0; frame = [] } in
    let all : c.len.result ≡ length time.passed_ones =
    c.len.ensures.frames (kept_frames time.passed_ones) time.holds
    ∙ length-map time.passed_ones kept_numbered in
    let within : c.args.place < length time.passed_ones =
    omega (arith, all, c.if-index-len.false) in
    let few = starts-in-time c.args.late c.args.list.now c.args.place c.head.result
    c.bytes.result.now d time within
    (c.head.ensures (kept_frames time.passed_ones) (kept_numbered d) time.holds) in
    omega (arith, few, c.from.ensures, c.from-2.ensures)
