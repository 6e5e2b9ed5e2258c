use Rattle.std.proofs.Common.{◌∙◌, Some, None, sym}
use Rattle.capture_text.proofs.DecimalLaws.{number_ends, number_stops, number_more}
use Rattle.capture_text.proofs.decimal.+number_from.Goals as goal

pub returns-in-empty : goal.returns-in-empty
returns-in-empty t c = sym (number_ends c.args.value c.args.digits.now c.in-empty.len_below)

pub returns-then-not-is_digit : goal.returns-then-not-is_digit
returns-then-not-is_digit t c =
    sym (number_stops c.args.value c.args.digits.now c.in-len1-up.len_at_least
    (sym c.is_digit.ensures ∙ c.if-not-is_digit.true))

pub returns-in-Some : goal.returns-in-Some
returns-in-Some t c =
    c.number_from.ensures
    ∙ number_more c.args.value c.args.digits.now (Some c.in-Some.value) c.in-len1-up.len_at_least
    (sym c.is_digit.ensures ∙ c.if-not-is_digit.false) c.in-Some.ensures

pub returns-in-None : goal.returns-in-None
returns-in-None t c =
    number_more c.args.value c.args.digits.now None c.in-len1-up.len_at_least
    (sym c.is_digit.ensures ∙ c.if-not-is_digit.false) c.in-None.ensures
