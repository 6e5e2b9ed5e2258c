use Rattle.std.proofs.Common.{arith}
use Rattle.line_capture.proofs.RecordLists.{next_texts, last-tick, is_recorded}
use Rattle.line_capture.proofs.records.recorded.Goals as goal

pub loop-tick-preserved : goal.loop-tick-preserved
loop-tick-preserved c =
    let h = next_texts c.args.form c.args.rate c.max-most.result c.loop-tick.tick c.args.a.now
    c.args.b.now c.loop-tick.room_a c.loop-tick.room_b c.in-Ok.room c.in-Ok-push_at.room
    c.loop-tick.texts c.push_at.new.self c.push_at-in-loop-tick.new.self _ c.loop-tick-test.true
    c.loop-tick.invariant.form c.loop-tick.invariant.rate c.in-Ok.ensures c.in-Ok-push_at.ensures
    c.loop-tick.invariant.text in
    record { form = h.0; rate = h.1; text = h.2 }

pub returns : goal.returns
returns c =
    is_recorded c.args.form c.args.rate c.max-most.result c.args.a.now c.args.b.now
    c.loop-tick.texts.text.items (omega arith) (omega arith)
    (last-tick c.args.form c.args.rate c.max-most.result c.loop-tick.tick c.args.a.now c.args.b.now
    c.loop-tick.room_a c.loop-tick.room_b _ _ (omega arith) c.loop-tick.invariant.text)
