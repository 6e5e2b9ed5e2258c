use Rattle.std.proofs.Common.{refl}
use Rattle.any_box.proofs.Committed.{checks, steady_disk}
use Rattle.any_box.proofs.committing.CheckerCommittingBox.step_in_memory.Goals as goal

pub returns-clause-steps : goal.returns-clause-steps
returns-clause-steps g c = λ setup line stands.
    let taken = (rw c.unwrap.ensures at c.step.ensures.step) setup line stands in
    record { stands = taken.stands; number = taken.floor; answers = taken.answers }

pub returns-clause-commits : goal.returns-clause-commits
returns-clause-commits g c = checks steady_disk (λ disk. refl) _ _ _ _ c.unwrap.result.note
    (rw c.unwrap.ensures at c.step.ensures.journal.commits)
