use Rattle.capture_text.proofs.Reached.{lines_ended-more}
use Rattle.capture_text.proofs.Reading.{text_more, text_begins, text_none, text_cause}
use Rattle.std.proofs.{Common.[], Common.◌∷◌, Common.arith, lemmas.List.length-append}
use Rattle.capture_text.proofs.reader.TextReader.feed.Goals as goal

pub returns-then-b-eq10-clause-stands : goal.returns-then-b-eq10-clause-stands
returns-then-b-eq10-clause-stands c = λ text items s. record {
  walks = text_more c.args.self.now.place text items s.walks c.args.b c.in-Ok.place c.in-Ok.byte
      c.in-Ok.ensures.step;
  open_yet = s.open_yet;
  counted = omega (arith, length-append text (c.args.b ∷ []), s.counted);
  lines = grind (arith, lines_ended-more text c.args.b, s.lines, c.if-b-eq10.true);
}

pub returns-then-b-eq10-clause-begins : goal.returns-then-b-eq10-clause-begins
returns-then-b-eq10-clause-begins c = λ text items s.
    text_begins c.in-Ok.place _ _
    (text_more c.args.self.now.place text items s.walks c.args.b c.in-Ok.place c.in-Ok.byte
    c.in-Ok.ensures.step)

pub returns-else-b-eq10-clause-stands : goal.returns-else-b-eq10-clause-stands
returns-else-b-eq10-clause-stands c = λ text items s. record {
  walks = text_more c.args.self.now.place text items s.walks c.args.b c.in-Ok.place c.in-Ok.byte
      c.in-Ok.ensures.step;
  open_yet = s.open_yet;
  counted = omega (arith, length-append text (c.args.b ∷ []), s.counted);
  lines = grind (arith, lines_ended-more text c.args.b, s.lines, c.if-b-eq10.false);
}

pub returns-else-b-eq10-clause-begins : goal.returns-else-b-eq10-clause-begins
returns-else-b-eq10-clause-begins c = λ text items s.
    text_begins c.in-Ok.place _ _
    (text_more c.args.self.now.place text items s.walks c.args.b c.in-Ok.place c.in-Ok.byte
    c.in-Ok.ensures.step)

pub returns-in-Err-clause-refused : goal.returns-in-Err-clause-refused
returns-in-Err-clause-refused c = λ text items s. (
  text_begins c.args.self.now.place text items s.walks,
  text_none c.args.self.now.place text items s.walks c.args.b c.in-Err.why c.in-Err.ensures.step,
  c.refuse.ensures.place text items s,
  rw c.refuse.ensures.why (text_cause c.args.self.now.place text items s.walks c.args.b
      c.in-Err.why c.in-Err.ensures.step),
)
