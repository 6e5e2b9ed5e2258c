use Rattle.line_capture.proofs.Apart.{none_counted, distances_stop, first_counted, later_counted}
use Rattle.line_capture.proofs.PlacedBytes.{counts_on}
use Rattle.std.proofs.Common.{take}
use Rattle.line_capture.proofs.distances.count_distances.Goals.{then-before-gt0, else-before-gt0}
use Rattle.line_capture.proofs.distances.count_distances.Goals as goal

pub loop-byte-init : goal.loop-byte-init
loop-byte-init c = record {
  timing = c.new-placer.ensures.timing;
  taken = c.new-placer.ensures.start;
  in_time = tt;
  counts = none_counted;
}

pub returns-then-not-count_next : goal.returns-then-not-count_next
returns-then-not-count_next c =
    distances_stop c.args.timing c.args.bytes.now c.loop-byte.byte-index _ c.loop-byte.placer
    c.count_next.new.placer c.loop-byte.found c.loop-byte-test.true c.loop-byte.invariant.timing
    c.loop-byte.invariant.in_time (c.if-not-count_next.ensures
    (take c.loop-byte.byte-index c.args.bytes.now) c.loop-byte.invariant.taken)
    c.loop-byte.invariant.counts

pub loop-byte-preserved : goal.loop-byte-preserved
loop-byte-preserved c =
    let next = c.if-not-count_next.ensures (take c.loop-byte.byte-index c.args.bytes.now)
    c.loop-byte.invariant.taken in
    let was = c.ticks-before.ensures (take c.loop-byte.byte-index c.args.bytes.now)
    c.loop-byte.invariant.taken in
    let on = counts_on c.args.timing c.args.bytes.now c.loop-byte.byte-index _ c.loop-byte.placer
    c.count_next.new.placer c.loop-byte-test.true c.loop-byte.invariant.timing
    c.loop-byte.invariant.in_time next in
    record {
      timing = on.0;
      taken = on.1;
      in_time = on.2;
      counts = elim c.if-before-gt0.branch [
        | then-before-gt0 w ↦ later_counted c.args.timing c.args.bytes.now c.loop-byte.byte-index _
            c.loop-byte.placer c.count_next.new.placer c.loop-byte.found c.if-before-gt0.found _
            c.loop-byte-test.true c.loop-byte.invariant.timing next c.loop-byte.invariant.counts was
            _ w.ticks.result w.saturating_sub.result (w.ticks.ensures _ next.0)
            w.saturating_sub.ensures w.if-before-gt0.true w.count.ensures w.found-is
        | else-before-gt0 w ↦ first_counted c.args.timing c.args.bytes.now c.loop-byte.byte-index _
            c.loop-byte.placer c.count_next.new.placer c.loop-byte.found c.if-before-gt0.found _
            c.loop-byte-test.true c.loop-byte.invariant.timing next c.loop-byte.invariant.counts was
            w.if-before-gt0.false w.found-is
      ];
    }
