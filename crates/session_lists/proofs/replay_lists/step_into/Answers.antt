use Rattle.session_lists.proofs.Keeping.{steps-frame}
use Rattle.session_lists.proofs.replay_lists.step_into.Goals as goal

pub returns-in-Ok-clause-ok : goal.returns-in-Ok-clause-ok
returns-in-Ok-clause-ok g c = λ setup line keeps.
    steps-frame g.B.FrameBox _ _ _ _ setup line c.args.t c.step-step.result c.in-Some.head
    c.in-Some.is keeps (c.step-step.ensures.stands setup line keeps.steps)
    (c.step-step.ensures.answer setup line keeps.steps)
    (rw c.bytes.ensures.bytes at c.in-Ok.ensures.kept)
