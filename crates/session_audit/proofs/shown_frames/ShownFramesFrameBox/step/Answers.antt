use Rattle.session_audit.proofs.{LastNotes.frames-step, Showing.shown-live, Starting.never-fails}
use Rattle.std.proofs.Common.{◌++◌, ◌∷◌, []}
use Rattle.session_audit.proofs.shown_frames.ShownFramesFrameBox.step.Goals as goal

pub unwrap-step-requires : goal.unwrap-step-requires
unwrap-step-requires g c = never-fails _ _ c.step-2.result (g.met.K.SteadyDisk.steady _)
    c.step-2.ensures.journal.cause.failed

pub returns-clause-stands : goal.returns-clause-stands
returns-clause-stands g c = λ setup line before. record {
  notes = ((rw c.unwrap-step.ensures at c.step-2.ensures.steps) setup line before.notes).stands;
  burst = c.step.ensures line before.burst;
  room = before.room;
}

pub returns-clause-answer : goal.returns-clause-answer
returns-clause-answer g c = λ setup line before.
    let walking = g.X.LinkBox.walking in
    let stepped = (rw c.unwrap-step.ensures at c.step-2.ensures.steps) setup line before.notes in
    let now = line ++ c.args.t ∷ [] in
    let live = c.live.ensures _ setup now stepped.stands in
    let burst = c.step.ensures line before.burst in
    let bytes = shown-live g.R.LineRules _ _ _ now before.room live (c.len-self.ensures _ live)
    burst.kept in
    record {
      tick_is = stepped.answers.tick;
      frame_is = rw c.numbered.ensures
          (frames-step (walking.walker setup)
          (g.met.X.NotingBox.causal _ _ setup now stepped.stands) g.R.LineRules.rules
          walking.frame_in walking.brief g.X.NotingBox.told (g.met.X.NotingBox.has_frames setup)
          (walking.begun setup) line c.args.t _ bytes _ _ stepped.answers);
    }
