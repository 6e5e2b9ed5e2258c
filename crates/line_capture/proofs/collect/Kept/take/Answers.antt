use Rattle.line_capture.proofs.collect.Kept.take.Goals as goal

pub returns-else-event-eq-PARITY_ERROR-clause-taken :
    goal.returns-else-event-eq-PARITY_ERROR-clause-taken
returns-else-event-eq-PARITY_ERROR-clause-taken c = rw c.in-Event.is (λ _. c.count.ensures c.args.ways)
