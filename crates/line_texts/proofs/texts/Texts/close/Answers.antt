use Rattle.std.proofs.Common.{◌∙◌, refl}
use Rattle.line_texts.proofs.texts.Texts.close.Goals as goal

pub returns : goal.returns
returns c = record {
  whole = λ ticks notes waits. c.finish.ensures.added
      ∙ c.finish.ensures.whole ticks c.args.self.now.ticks.items waits.written;
  notes = refl;
}
