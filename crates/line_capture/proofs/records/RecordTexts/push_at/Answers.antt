use Rattle.std.proofs.Common.{arith, ◌-◌, take, drop, length}
use Rattle.std.proofs.lemmas.List.{length-take}
use Rattle.line_capture.proofs.records.RecordTexts.push_at.Goals as goal

pub push_record-requires-clause-few : goal.push_record-requires-clause-few
push_record-requires-clause-few c =
    let h = length-take c.record_len-count.result
    (take (length c.args.line.now - c.args.tick) (drop c.args.tick c.args.line.now)) in
    let few = c.record_len-count.ensures.few in omega (arith, h, few)
