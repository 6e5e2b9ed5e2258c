use Rattle.link_format.specs.declared.dir.Dir.TheVariants.{Ab, Ba}
use Rattle.poll_session.specs.TurnedEnds.{wires_and}
use Rattle.std.proofs.Common.{◌∙◌, ◌++◌, ◌∷◌, [], ap, arith, length-append, sym}
use Rattle.poll_session.proofs.session.PollSession.step.Goals as goal

pub returns-clause-run : goal.returns-clause-run
returns-clause-run g c = λ seed run.
    let asked = c.in-Ok.asked in
    let answered = c.in-Ok-step.answered in
    let long = run.long in
    let more = length-append run.master (asked.said ∷ []) in
    record {
      a = wires_and run.a asked;
      b = wires_and run.b answered;
      master = run.master ++ asked.said ∷ [];
      devices = run.devices ++ answered.said ∷ [];
      deaf_master = run.deaf_master ++ asked.deaf ∷ [];
      deaf_device = run.deaf_device ++ answered.deaf ∷ [];
      at_a = c.in-Ok.ensures.polled Ab run.a run.master run.deaf_master run.at_a;
      at_b = c.in-Ok-step.ensures.polled Ba run.b run.devices run.deaf_device run.at_b;
      same_link = ap (λ l. l ++ asked.link_wires ∷ []) run.same_link
          ∙ ap (λ t. run.b.link_wires ++ t ∷ []) (c.in-Ok.ensures.link ∙ sym c.in-Ok-step.ensures.link);
      asked = c.note.ensures.asks seed run.master run.asked;
      long = omega (arith, long, more);
    }
