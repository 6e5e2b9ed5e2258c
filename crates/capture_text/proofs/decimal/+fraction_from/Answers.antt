use Rattle.std.proofs.Common.{◌∙◌, Some, None, sym}
use Rattle.capture_text.proofs.DecimalLaws.{fraction_ends, fraction_stops, fraction_more}
use Rattle.capture_text.proofs.decimal.+fraction_from.Goals as goal

pub returns-in-empty : goal.returns-in-empty
returns-in-empty t c = sym (fraction_ends c.args.time c.args.counts c.args.digits.now c.in-empty.len_below)

pub returns-then-not-is_digit : goal.returns-then-not-is_digit
returns-then-not-is_digit t c =
    sym (fraction_stops c.args.time c.args.counts c.args.digits.now c.in-len1-up.len_at_least
    (sym c.is_digit.ensures ∙ c.if-not-is_digit.true))

pub returns-in-Some : goal.returns-in-Some
returns-in-Some t c =
    c.fraction_from.ensures
    ∙ fraction_more c.args.time c.args.counts c.args.digits.now (Some c.in-Some.time) c.in-len1-up.len_at_least
    (sym c.is_digit.ensures ∙ c.if-not-is_digit.false) c.in-Some.ensures

pub returns-in-None : goal.returns-in-None
returns-in-None t c =
    fraction_more c.args.time c.args.counts c.args.digits.now None c.in-len1-up.len_at_least
    (sym c.is_digit.ensures ∙ c.if-not-is_digit.false) c.in-None.ensures
