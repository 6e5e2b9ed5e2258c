use Rattle.line_commands.{proofs.Kept.text-of, specs.KeptBox.timed_of, specs.KeptBox.line_alone}
use Rattle.{line_texts.specs.Sending.sink_texts, std.proofs.Common.[], std.proofs.Common.Some}
use Rattle.line_commands.proofs.kept_box.KeptBox.finish.Goals as goal

pub returns-in-Ok-clause-texts : goal.returns-in-Ok-clause-texts
returns-in-Ok-clause-texts g c = λ setup line keeps. record {
  text_is = text-of _ _ (c.in-Ok.ensures.ok
      (line_alone (timed_of g.B.LinkBox.walking g.B.LineBox.line_of setup))
      (sink_texts (Some []) (Some [])) line keeps.sends).text;
  notes = keeps.notes;
  in_order = keeps.in_order;
}
