use Rattle.std.proofs.Common.{◌∙◌, sym}
use Rattle.link_replay.proofs.Numbers.{not-refused, not-another}
use Rattle.link_replay.proofs.words.read_wide.Goals as goal

pub returns-in_default-clause-usage : goal.returns-in_default-clause-usage
returns-in_default-clause-usage c = λ n few spelled.
    not-refused c.args.word.now c.parse.result n few spelled c.parse.ensures.value.0
    c.in_default.field-0 c.in_default.is

pub returns-else-eq-clause-usage : goal.returns-else-eq-clause-usage
returns-else-eq-clause-usage c = λ n few spelled.
    not-another c.args.word.now c.parse.result n few spelled c.parse.ensures.value.0 c.in-Ok.n
    c.format.result.now c.in-Ok.is c.format.ensures.text (sym c.eq.ensures ∙ c.if-eq.false)
