use Rattle.std.proofs.Common.{◌∙◌, ◌+◌, ◌*◌, [], ◌∷◌, ap, arith}
use Rattle.std.proofs.lemmas.List.{length-append}
use Rattle.capture_text.proofs.TextLaws.{text_more}
use Rattle.capture_text.proofs.dump_writer.DumpWriter.tick.Goals as goal

pub returns-clause-writes : goal.returns-clause-writes
returns-clause-writes c = λ xs ys text s. record {
  count_a = omega (arith, length-append xs (c.args.a ∷ []), s.count_a);
  count_b = omega (arith, length-append ys (c.args.b ∷ []), s.count_b);
  text_is = text_more c.args.self.now.rate c.args.self.now.wires xs ys c.args.self.now.ticks text
      c.tick_text-text.result.items s.count_a s.count_b s.text_is c.args.a c.args.b
      ((c.from.result + 1) * c.from-2.result)
      (ap (λ n. (n + 1) * c.from-2.result) c.from.ensures
      ∙ ap (λ n. (c.args.self.now.ticks + 1) * n) c.from-2.ensures) c.tick_text-text.ensures;
}
