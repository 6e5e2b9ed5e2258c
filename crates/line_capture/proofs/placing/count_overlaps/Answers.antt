use Rattle.line_capture.proofs.PlacedBytes.{counts_stop, counts_on}
use Rattle.std.proofs.Common.{take}
use Rattle.line_capture.proofs.placing.count_overlaps.Goals as goal

pub returns-then-not-count_next : goal.returns-then-not-count_next
returns-then-not-count_next c =
    counts_stop c.args.timing c.args.bytes.now c.loop-byte.byte-index _ c.loop-byte.placer
    c.count_next.new.placer c.overlaps.result c.loop-byte-test.true c.loop-byte.invariant.timing
    c.loop-byte.invariant.taken c.loop-byte.invariant.in_time (c.if-not-count_next.ensures
    (take c.loop-byte.byte-index c.args.bytes.now) c.loop-byte.invariant.taken) c.overlaps.ensures

pub loop-byte-preserved : goal.loop-byte-preserved
loop-byte-preserved c =
    let on = counts_on c.args.timing c.args.bytes.now c.loop-byte.byte-index _ c.loop-byte.placer
    c.count_next.new.placer c.loop-byte-test.true c.loop-byte.invariant.timing
    c.loop-byte.invariant.in_time (c.if-not-count_next.ensures
    (take c.loop-byte.byte-index c.args.bytes.now) c.loop-byte.invariant.taken) in
    record { timing = on.0; taken = on.1; in_time = on.2 }
