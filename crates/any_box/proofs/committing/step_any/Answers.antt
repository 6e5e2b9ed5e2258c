use Rattle.any_box.proofs.Noted.{steps-on}
use Rattle.any_box.proofs.committing.step_any.Goals as goal

pub returns-clause-steps : goal.returns-clause-steps
returns-clause-steps g c = steps-on g.X.LinkBox.walking g.X.LinkBox.stands
    g.X.CommittingBox.noted _ _ _ _ _ _ _ _ c.wrap_note-note.ensures
    c.step_in_memory-step.ensures.steps
