use Rattle.std.proofs.Common.{arith, take, refl}
use Rattle.line_capture.proofs.CollectedBytes.{item_parts, item_front, length-front}
use Rattle.line_capture.proofs.PlacedBytes.{none_so_far, one_more, one_stops, one_fails, next_so_far}
use Rattle.line_capture.proofs.placing.place_bytes.Goals as goal

pub loop-byte-init : goal.loop-byte-init
loop-byte-init g c = record {
  count = refl;
  so_far = none_so_far g.O.Sink g.L.Sink c.args.timing _ _ c.requires c.new-placer.ensures.timing
      c.new-placer.ensures.start;
}

pub place_next-requires-clause-room : goal.place_next-requires-clause-room
place_next-requires-clause-room g c = c.loop-byte.invariant.so_far.room

pub returns-in-Ok-Unplaced : goal.returns-in-Ok-Unplaced
returns-in-Ok-Unplaced g c =
    let e = rw c.in-Ok-Unplaced.field-0-is at c.in-Ok-Unplaced.ensures in
    let at = c.loop-byte.invariant.so_far in
    one_stops g.O.Sink g.L.Sink c.args.timing c.loop-byte.placer
    (take c.loop-byte.byte-index c.args.bytes.now) _ _ _ _ at c.args.bytes.now _ _
    c.loop-byte.placed (item_parts c.args.bytes.now c.loop-byte.byte-index _ c.loop-byte-test.true)
    (length-front c.args.bytes.now c.loop-byte.byte-index c.loop-byte.placed c.loop-byte-test.true
    c.loop-byte.invariant.count) (e (take c.loop-byte.byte-index c.args.bytes.now) at.taken)

pub returns-in-Ok-TooLong : goal.returns-in-Ok-TooLong
returns-in-Ok-TooLong g c =
    let e = rw c.in-Ok-TooLong.field-0-is at c.in-Ok-TooLong.ensures in
    let at = c.loop-byte.invariant.so_far in
    one_stops g.O.Sink g.L.Sink c.args.timing c.loop-byte.placer
    (take c.loop-byte.byte-index c.args.bytes.now) _ _ _ _ at c.args.bytes.now _ _
    c.loop-byte.placed (item_parts c.args.bytes.now c.loop-byte.byte-index _ c.loop-byte-test.true)
    (length-front c.args.bytes.now c.loop-byte.byte-index c.loop-byte.placed c.loop-byte-test.true
    c.loop-byte.invariant.count) (e (take c.loop-byte.byte-index c.args.bytes.now) at.taken)

pub returns-in-Err : goal.returns-in-Err
returns-in-Err g c =
    let at = c.loop-byte.invariant.so_far in
    one_fails g.O.Sink g.L.Sink c.args.timing c.loop-byte.placer
    (take c.loop-byte.byte-index c.args.bytes.now) _ _ _ _ at c.args.bytes.now _ _
    (item_front c.args.bytes.now c.loop-byte.byte-index _ c.loop-byte-test.true)
    (c.in-Err.ensures (take c.loop-byte.byte-index c.args.bytes.now) at.taken)

pub loop-byte-preserved : goal.loop-byte-preserved
loop-byte-preserved g c =
    let e = rw c.in-Ok-AllPlaced.field-0-is at c.in-Ok-AllPlaced.ensures in
    let at = c.loop-byte.invariant.so_far in record {
      count = omega (arith, c.loop-byte.invariant.count);
      so_far = next_so_far g.O.Sink g.L.Sink c.args.timing _ c.args.bytes.now c.loop-byte.byte-index
          _ _ _ c.loop-byte-test.true
          (one_more g.O.Sink g.L.Sink c.args.timing c.loop-byte.placer
          (take c.loop-byte.byte-index c.args.bytes.now) _ _ _ _ at _
          (e (take c.loop-byte.byte-index c.args.bytes.now) at.taken));
    }
