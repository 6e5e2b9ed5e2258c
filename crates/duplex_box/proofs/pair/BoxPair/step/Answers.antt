use Rattle.duplex_box.proofs.pair.BoxPair.step.Goals as goal

pub returns-in-Err-step-clause-steps : goal.returns-in-Err-step-clause-steps
returns-in-Err-step-clause-steps g c = record {
  outgoing = record {
    tick = c.in-Ok.step.tick;
    note = c.in-Ok.step.note;
    taken = record {
      counted = c.in-Ok.ensures.taken;
      link = c.step.ensures.link;
      steps = c.in-Ok.ensures.steps;
      journal = c.in-Ok.ensures.journal;
    };
  };
  incoming = record {
    fault = c.in-Err-step.field-0;
    fails = c.in-Err-step.ensures.fails;
    journal = c.in-Err-step.ensures.journal;
  };
}
