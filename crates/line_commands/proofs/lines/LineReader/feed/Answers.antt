use Rattle.std.proofs.Common.{refl, arith}
use Rattle.line_commands.proofs.Reading.{fed_line, fed_refused, fed_unended}
use Rattle.line_commands.proofs.lines.LineReader.feed.Goals as goal

pub returns-in-Ok-clause-answer : goal.returns-in-Ok-clause-answer
returns-in-Ok-clause-answer c = λ text has. fed_line c.renew.new.self text c.args.bytes.now
    (c.renew.ensures.read text has) c.feed_line-taken.result.taken _ c.in-Ok.content c.requires.some
    (rw c.in-Ok.is at c.feed_line-taken.ensures.fed) (grind arith) refl c.renew.ensures.begun
    (grind arith) (grind arith)

pub returns-in-Err-clause-answer : goal.returns-in-Err-clause-answer
returns-in-Err-clause-answer c = λ text has. fed_refused c.renew.new.self text c.args.bytes.now
    (c.renew.ensures.read text has) c.feed_line-taken.result.taken c.feed_line-taken.new.self
    c.in-Err.bad _ (rw c.in-Err.is at c.feed_line-taken.ensures.fed) c.in_text.ensures.line
    c.in_text.ensures.why

pub returns-then-self-gt-MAX_LINE-clause-answer : goal.returns-then-self-gt-MAX_LINE-clause-answer
returns-then-self-gt-MAX_LINE-clause-answer c = λ text has. (
  omega (arith, c.if-self-gt-MAX_LINE.true, c.from.ensures),
  fed_unended c.renew.new.self text _ (c.renew.ensures.read text has) c.renew.ensures.begun
      c.from.ensures,
)
