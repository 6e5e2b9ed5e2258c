use Rattle.any_box.proofs.committing.SealerCommittingBox.step_in_memory.Goals as goal

pub returns-clause-steps : goal.returns-clause-steps
returns-clause-steps g c = λ setup line stands.
    let taken = (rw c.unwrap.ensures at c.step.ensures.step) setup line stands in
    record { stands = taken.stands; number = taken.floor; answers = taken.answers }
