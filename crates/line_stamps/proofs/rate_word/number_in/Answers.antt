use Rattle.std.proofs.Common.{◌∙◌, sym}
use Rattle.line_stamps.proofs.Numbers.{not-refused, not-another}
use Rattle.line_stamps.proofs.rate_word.number_in.Goals as goal

pub returns-in_default-clause-none : goal.returns-in_default-clause-none
returns-in_default-clause-none c = λ n few spelled.
    not-refused c.args.word.now c.parse.result n few spelled c.parse.ensures.value.0
    c.in_default.field-0 c.in_default.is

pub returns-else-eq-clause-none : goal.returns-else-eq-clause-none
returns-else-eq-clause-none c = λ n few spelled.
    not-another c.args.word.now c.parse.result n few spelled c.parse.ensures.value.0 c.in-Ok.n
    c.format.result.now c.in-Ok.is c.format.ensures.text (sym c.eq.ensures ∙ c.if-eq.false)
