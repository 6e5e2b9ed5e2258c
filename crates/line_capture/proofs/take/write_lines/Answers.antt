use Rattle.line_capture.proofs.Written.{first_line_fails, mark_fails, second_line_fails, both_lines}
use Rattle.line_capture.proofs.take.write_lines.Goals as goal

pub returns-in-Err-clause-lines : goal.returns-in-Err-clause-lines
returns-in-Err-clause-lines g c =
    let line = rw c.as_slice-first.ensures.value at c.in-Err.ensures.line in
    first_line_fails c.args.timing c.args.ways c.args.kept.now _ _ line

pub returns-in-Err-write_mark-clause-lines : goal.returns-in-Err-write_mark-clause-lines
returns-in-Err-write_mark-clause-lines g c =
    let line = rw c.as_slice-first.ensures.value at c.in-Ok.ensures.line in
    mark_fails c.args.timing c.args.ways c.args.kept.now _ _ _ _ line
    c.in-Err-write_mark.ensures.err

pub returns-in-Ok-write_line-clause-lines : goal.returns-in-Ok-write_line-clause-lines
returns-in-Ok-write_line-clause-lines g c =
    let line = rw c.as_slice-first.ensures.value at c.in-Ok.ensures.line in
    let other = rw c.as_slice-second.ensures.value at c.in-Ok-write_line.ensures.line in
    both_lines c.args.timing c.args.ways c.args.kept.now _ _ _ _ _ _ line
    c.in-Ok-write_mark.ensures.ok other

pub returns-in-Err-write_line-clause-lines : goal.returns-in-Err-write_line-clause-lines
returns-in-Err-write_line-clause-lines g c =
    let line = rw c.as_slice-first.ensures.value at c.in-Ok.ensures.line in
    let other = rw c.as_slice-second.ensures.value at c.in-Err-write_line.ensures.line in
    second_line_fails c.args.timing c.args.ways c.args.kept.now _ _ _ _ _ line
    c.in-Ok-write_mark.ensures.ok other
