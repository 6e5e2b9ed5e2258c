use Rattle.std.proofs.Common.{◌∙◌, ◌+◌, ap, refl, sym}
use Rattle.line_commands.proofs.Kept.{keeps-step}
use Rattle.line_commands.proofs.kept_box.KeptBox.step.Goals as goal

pub returns : goal.returns
returns g c = record {
  counted = refl;
  served = record {
    of_link = c.step.ensures.journal.link ∙ (c.requires.served.of_link ∙ sym c.step.ensures.link);
    fits = rw c.unwrap-step.ensures at c.step.ensures.journal.fits;
    level = (rw c.unwrap-step.ensures at c.step.ensures.taken)
        ∙ ap (λ n. n + 1) c.requires.served.level;
    whole = (c.in-Ok.ensures _ (record { is = refl; whole = c.requires.served.whole })).whole;
  };
  keeps = keeps-step g.B.LinkBox g.B.LineBox.line_of c.args.self.now _ _ c.add_step.ensures.adds refl
      c.args.tick c.unwrap-step.result.tick c.unwrap-step.result.note refl
      (rw c.unwrap-step.ensures at c.step.ensures.steps) c.in-Ok.ensures refl;
}
