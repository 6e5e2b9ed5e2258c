use Rattle.line_stamps.proofs.Words.{not-digit, not-one, if-not-x}
use Rattle.line_stamps.proofs.rate_word.baud_word.Goals as goal

pub returns-in_default-clause-none : goal.returns-in_default-clause-none
returns-in_default-clause-none c =
    not-digit c.args.word.now c.args.digit c.in_default.ensures.none

pub returns-in_default-in_front_of-clause-none : goal.returns-in_default-in_front_of-clause-none
returns-in_default-in_front_of-clause-none c =
    not-one c.args.word.now c.args.digit c.in-Some.longer.now c.in-Some.ensures.some
    c.in_default-in_front_of.ensures.none

pub returns-clause-none : goal.returns-clause-none
returns-clause-none c =
    if-not-x c.args.word.now c.args.digit c.in-Some.longer.now c.in-Some.ensures.some
    c.in-Some-in_front_of.shorter.now c.in-Some-in_front_of.ensures.some c.in_front_of-3.result
    c.in_front_of-3.ensures.none
