use Rattle.line_commands.proofs.Walking.{step-answers}
use Rattle.std.proofs.Common.{◌∙◌, sym}
use Rattle.live_line.proofs.plain_box.PlainBox.step.Goals as goal

pub returns : goal.returns
returns g c =
    let steps = rw c.unwrap.ensures at c.step.ensures.steps in
    record {
      counted = rw c.unwrap.ensures at c.step.ensures.taken;
      ready = record {
        of_link = c.step.ensures.journal.link ∙ (c.requires.ready.of_link ∙ sym c.step.ensures.link);
        fits = rw c.unwrap.ensures at c.step.ensures.journal.fits;
      };
      rises = c.step.ensures.journal.rises;
      steps = λ setup line stood.
          let went = steps setup line stood.steps in
          record {
            stood = record { steps = went.stands; number_is = went.number };
            answers = step-answers g.B.LinkBox.walking g.B.LineBox.line_of setup line c.args.tick
                c.unwrap.result.tick c.unwrap.result.note went.answers;
          };
    }
