use Rattle.line_capture.proofs.RunEnds.{log_fails, log_goes, lines_fail}
use Rattle.std.proofs.Common.{refl}
use Rattle.line_capture.proofs.take.write_taken.Goals as goal

pub returns-in-Err-clause-writes : goal.returns-in-Err-clause-writes
returns-in-Err-clause-writes g c =
    lines_fail c.args.taking c.args.collected.now.kept c.args.read c.args.collected.now.end _ _
    c.timing_for-timing.result c.timing_for-timing.ensures c.in-Err.ensures.lines
    c.in-Err.ensures.log

pub returns-in-Err-write_all-clause-writes : goal.returns-in-Err-write_all-clause-writes
returns-in-Err-write_all-clause-writes g c =
    log_fails c.args.taking c.args.collected.now.kept c.args.read c.args.collected.now.end _ _
    c.timing_for-timing.result c.timing_for-timing.ensures c.in-Ok.ends.0 c.in-Ok.ends.1 _
    c.in-Ok.ensures.lines c.saturating_add-overlaps.result c.with-found.result _
    c.write_lines.ensures.log c.as_slice.result.now c.taken_lines-lines.result.items
    c.as_slice.ensures.value c.taken_lines-lines.ensures refl c.in-Err-write_all.ensures.err

pub returns-clause-writes : goal.returns-clause-writes
returns-clause-writes g c =
    log_goes c.args.taking c.args.collected.now.kept c.args.read c.args.collected.now.end _ _
    c.timing_for-timing.result c.timing_for-timing.ensures c.in-Ok.ends.0 c.in-Ok.ends.1 _
    c.in-Ok.ensures.lines c.saturating_add-overlaps.result c.with-found.result _
    c.write_lines.ensures.log c.as_slice.result.now c.taken_lines-lines.result.items
    c.as_slice.ensures.value c.taken_lines-lines.ensures c.as_slice-first.result.now
    c.as_slice-second.result.now c.count_overlaps-overlaps_a.result
    c.count_overlaps-overlaps_b.result c.count_distances-a_found.result
    c.count_distances-b_found.result _ c.end_run.result c.outcome_of.result
    c.as_slice-first.ensures.value c.as_slice-second.ensures.value
    c.count_overlaps-overlaps_a.ensures c.count_overlaps-overlaps_b.ensures
    c.saturating_add-overlaps.ensures c.count_distances-a_found.ensures
    c.count_distances-b_found.ensures c.with-found.ensures c.in-Ok-write_all.ensures.ok
    c.end_run.ensures.out c.end_run.ensures.log c.outcome_of.ensures c.end_run.ensures.outcome
