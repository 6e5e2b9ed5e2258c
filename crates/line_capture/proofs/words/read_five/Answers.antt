use Rattle.std.proofs.Common.{rules}
use Rattle.line_capture.proofs.Asking.{no_five, five_ask}
use Rattle.line_capture.proofs.words.read_five.Goals as goal

pub returns-in-Ok-clause-ok : goal.returns-in-Ok-clause-ok
returns-in-Ok-clause-ok c = five_ask c.args.verb.now c.args.form.now c.args.rate.now
    c.args.ways.now c.args.last.now c.in-Ok.form c.in-Ok.rate c.in-Ok.ways (search rules) c.in-Ok.ensures.form
    c.in-Ok.ensures.rate c.in-Ok.ensures.ways (search rules)

pub returns-in-Err-clause-usage : goal.returns-in-Err-clause-usage
returns-in-Err-clause-usage c = no_five c.args.verb.now c.args.form.now c.args.rate.now
    c.args.ways.now c.args.last.now c.in-Err.ensures.usage
