use Rattle.poll_session.proofs.Asks.{requests-none, state-first, state-next}
use Rattle.std.proofs.Common.{◌∙◌, ◌++◌, [], ap, refl, sym}
use Rattle.trial_session.specs.Draws.{draw_state_after}
use Rattle.poll_session.proofs.master.Master.new.Goals as goal

pub returns-clause-asks : goal.returns-clause-asks
returns-clause-asks g c =
    let drawing = g.R.DrawnFrames.drawing in
    let seed = c.args.seed in
    let first = c.new-draws.ensures ∙ sym (state-first drawing seed) in
    record {
      state_is = c.draw_frame-frame.ensures.state
          ∙ (ap (λ x. draw_state_after (drawing.draws x) x) first ∙ sym (state-next drawing seed 0));
      frame_is = c.draw_frame-frame.ensures.frame ∙ ap drawing.frame first;
      asks = ap (λ l. l ++ []) (sym (requests-none drawing seed));
      ends = λ all. refl;
    }
