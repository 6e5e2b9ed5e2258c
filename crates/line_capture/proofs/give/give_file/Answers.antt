use Rattle.std.proofs.Common.{arith, ap, length}
use Rattle.line_capture.proofs.Gives.{are_lines, few_ticks}
use Rattle.line_capture.proofs.give.give_file.Goals as goal

pub given-requires-clause-a : goal.given-requires-clause-a
given-requires-clause-a g c =
    let keeps = rw c.new.ensures at c.in-Ok.ensures.lists in
    let few = few_ticks _ _ _ _ (are_lines c.args.giving.form c.args.file.now c.marks_for-marks.result _
    c.in-Ok.lists c.marks_for-marks.ensures keeps) in
    let same = ap length c.first.ensures in omega (arith, few.0, same)

pub given-requires-clause-b : goal.given-requires-clause-b
given-requires-clause-b g c =
    let keeps = rw c.new.ensures at c.in-Ok.ensures.lists in
    let few = few_ticks _ _ _ _ (are_lines c.args.giving.form c.args.file.now c.marks_for-marks.result _
    c.in-Ok.lists c.marks_for-marks.ensures keeps) in
    let same = ap length c.second.ensures in omega (arith, few.1, same)
