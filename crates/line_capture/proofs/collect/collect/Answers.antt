use Rattle.line_capture.proofs.CollectedBytes.{collects_more, stops_at, taken_items, ends_whole}
use Rattle.line_capture.proofs.CollectedBytes.{length-front}
use Rattle.std.proofs.{Common.refl, Common.arith, Common.take, Common.rules, lemmas.List.take_all}
use Rattle.line_capture.proofs.collect.collect.Goals as goal

pub loop-b-init : goal.loop-b-init
loop-b-init g c = record {
  count = refl;
  taken = c.begin-reader.ensures.taken;
  so_far = record {
    items = _;
    stands = c.begin-reader.ensures.stands;
    begins = c.begin-reader.ensures.begins;
    holds = c.new-kept.ensures c.args.taking.ways;
    right = tt;
  };
}

pub loop-b-preserved : goal.loop-b-preserved
loop-b-preserved g c =
    let e = rw c.in-Ok-None.field-0-is at c.in-Ok-None.ensures in record {
      count = omega (arith, c.loop-b.invariant.count);
      taken = search rules;
      so_far = collects_more g.F.FormReader c.args.taking _ _ c.args.file.now c.loop-b.b-index _
          c.loop-b-test.true (e.collects (take c.loop-b.b-index c.args.file.now)
          (length-front c.args.file.now c.loop-b.b-index c.loop-b.place c.loop-b-test.true
          c.loop-b.invariant.count) c.loop-b.invariant.so_far);
    }

pub returns-in-Ok-Some : goal.returns-in-Ok-Some
returns-in-Ok-Some g c =
    let e = rw c.in-Ok-Some.field-0-is at c.in-Ok-Some.ensures in
    stops_at g.F.FormReader c.args.taking c.args.whole _ c.args.file.now c.loop-b.b-index _
    c.in-Ok-Some.bad c.loop-b-test.true (e.collects (take c.loop-b.b-index c.args.file.now)
    (length-front c.args.file.now c.loop-b.b-index c.loop-b.place c.loop-b-test.true
    c.loop-b.invariant.count) c.loop-b.invariant.so_far)

pub returns : goal.returns
returns g c =
    ends_whole g.F.FormReader c.args.taking c.loop-b.reader c.loop-b.kept
    (take c.loop-b.b-index c.args.file.now) c.args.file.now c.args.whole c.end_of-end.result
    (take_all c.loop-b.b-index c.args.file.now (omega arith)) c.if-not-whole.false
    c.loop-b.invariant.so_far (c.end_of-end.ensures _ _ c.loop-b.invariant.so_far.stands)

pub returns-then-not-whole : goal.returns-then-not-whole
returns-then-not-whole g c = (
  c.if-not-whole.true,
  taken_items g.F.FormReader c.args.taking c.loop-b.reader c.loop-b.kept
      (take c.loop-b.b-index c.args.file.now) c.args.file.now
      (take_all c.loop-b.b-index c.args.file.now (omega arith)) c.loop-b.invariant.so_far,
)
