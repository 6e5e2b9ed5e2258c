use Rattle.line_capture.proofs.CollectedBytes.{collects_none, collects_one, collects_refused}
use Rattle.line_capture.proofs.collect.collect_byte.Goals as goal

pub returns-in-Ok-None-clause-collects : goal.returns-in-Ok-None-clause-collects
returns-in-Ok-None-clause-collects g c = λ file at so_far.
    let e = rw c.in-Ok-None.field-0-is at c.in-Ok-None.ensures in
    collects_none g.F.FormReader c.args.taking _ _ _ _ _ so_far
    (e.stands file so_far.items so_far.stands) (e.begins file so_far.items so_far.stands)

pub returns-in-Err-clause-collects : goal.returns-in-Err-clause-collects
returns-in-Err-clause-collects g c = λ file at so_far.
    collects_refused g.F.FormReader c.args.taking _ _ _ _ _ so_far
    (c.in-Err.ensures.refused file so_far.items so_far.stands)

pub returns-in-Ok-None-take-clause-collects : goal.returns-in-Ok-None-take-clause-collects
returns-in-Ok-None-take-clause-collects g c = λ file at so_far.
    let e = rw c.in-Ok-Some.field-0-is at c.in-Ok-Some.ensures in
    collects_one g.F.FormReader c.args.taking _ _ _ _ c.in-Ok-Some.seen file _ so_far
    (e.stands file so_far.items so_far.stands) (e.begins file so_far.items so_far.stands)
    (c.in-Ok-None-take.ensures.taken c.in-Ok-None-take.field-0-is)
    (c.in-Ok-None-take.ensures.right c.in-Ok-None-take.field-0-is)
