use Rattle.device_model.specs.Frames.{FrameRead}
use Rattle.session_lists.proofs.Due.{frame_at, spaced-there}
use Rattle.session_lists.specs.ReplayLists.{kept_read, kept_reads}
use Rattle.std.proofs.Common.{◌≡◌, ◌∙◌, ◌<◌, [], Some, ap, arith, length, sym}
use Rattle.std.proofs.lemmas.{List.length-map, Option.slice_get_past}
use Rattle.session_lists.proofs.expected.spaced_at.Goals as goal

pub returns-then-index-len-clause-due : goal.returns-then-index-len-clause-due
returns-then-index-len-clause-due c = λ frames holds.
    let all : c.len.result ≡ length frames =
    c.len.ensures.frames (kept_reads frames) holds ∙ length-map frames kept_read in
    sym (slice_get_past frames c.args.place (omega (arith, all, c.if-index-len.true)))

pub returns-clause-due : goal.returns-clause-due
returns-clause-due c = λ frames holds.
    let d : FrameRead = record { start = 0; frame = [] } in
    let all : c.len.result ≡ length frames =
    c.len.ensures.frames (kept_reads frames) holds ∙ length-map frames kept_read in
    let within : c.args.place < length frames = omega (arith, all, c.if-index-len.false) in
    let start : c.from.result ≡ c.head.result = omega (arith, c.from.ensures) in
    ap (λ s. Some (frame_at s c.bytes.result.now)) start
    ∙ spaced-there frames c.args.place c.head.result c.bytes.result.now d within
    (c.head.ensures (kept_reads frames) (kept_read d) holds)
    (c.bytes.ensures.frame (kept_reads frames) (kept_read d) holds)
