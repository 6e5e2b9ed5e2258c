use Rattle.session_lists.specs.Expected.{ExpectsFrom, InTimeFrom}
use Rattle.std.proofs.Common.{subst}
use Rattle.session_lists.proofs.expected.Expected.due_at.Goals as goal

pub returns-in-Passed-clause-due : goal.returns-in-Passed-clause-due
returns-in-Passed-clause-due c = λ frames expects.
    c.passed_at.ensures.due frames
    (subst (λ o. ExpectsFrom o c.args.self.late.late frames) c.in-Passed.is expects)

pub returns-in-Passed-clause-in_time : goal.returns-in-Passed-clause-in_time
returns-in-Passed-clause-in_time c = λ time.
    c.passed_at.ensures.in_time
    (subst (λ o. InTimeFrom o c.args.self.late.late) c.in-Passed.is time)

pub returns-in-Spaced-clause-due : goal.returns-in-Spaced-clause-due
returns-in-Spaced-clause-due c = λ frames expects.
    c.spaced_at.ensures.due frames
    (subst (λ o. ExpectsFrom o c.args.self.late.late frames) c.in-Spaced.is expects)
