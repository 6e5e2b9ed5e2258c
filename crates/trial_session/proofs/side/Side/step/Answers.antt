use Rattle.std.proofs.Common.{[], ◌∷◌, refl, subst, sym}
use Rattle.trial_session.proofs.{Counting.counts-step, SentRuns.sends-step}
use Rattle.trial_session.specs.{Boxes.trial_setup, Counting.CountsStep, Sides.SideHasSent}
use Rattle.trial_session.proofs.side.Side.step.Goals as goal

pub returns-clause-sent : goal.returns-clause-sent
returns-clause-sent g c = λ line taken.
    let counting = g.X.CountingBox.counting in
    let step = c.unwrap-step.result in
    let stepped = (rw c.unwrap-step.ensures at c.step.ensures.steps) trial_setup line
    taken.stands in
    let counts = subst (λ f. CountsStep counting line c.args.t step.tick f) (sym c.fate_in.ensures)
    (counts-step g.X.LinkBox.walking g.X.CountingBox.fate_of counting g.met.X.CountingBox.counts
    line c.args.t step.tick step.note stepped.answers) in
    subst (λ s. SideHasSent g.X.LinkBox counting s line (c.args.t ∷ []) (step.tick ∷ []))
    (sym c.count.ensures)
    (sends-step g.X.LinkBox counting c.args.self.now _ line c.args.t step.tick c.fate_in.result
    stepped.stands refl refl refl taken counts)
