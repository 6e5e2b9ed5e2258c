use Rattle.line_stamps.proofs.Words.{read-some, read-none, no-rate}
use Rattle.line_stamps.proofs.rate.Rate.read.Goals as goal

pub returns-in-Some-clause-some : goal.returns-in-Some-clause-some
returns-in-Some-clause-some c =
    read-some c.args.word.now c.in-Some.baud.now 10 c.in-Some.ensures.some c.rate_of.result
    c.rate_of.ensures.baud c.rate_of.ensures.bits

pub returns-in-Some-clause-none : goal.returns-in-Some-clause-none
returns-in-Some-clause-none c =
    read-none c.args.word.now c.in-Some.baud.now 10 c.in-Some.ensures.some c.rate_of.result
    c.rate_of.ensures.none

pub returns-in_default-baud_word-clause-none : goal.returns-in_default-baud_word-clause-none
returns-in_default-baud_word-clause-none c =
    no-rate c.args.word.now c.in_default.ensures.none c.in_default-baud_word.ensures.none

pub returns-clause-some : goal.returns-clause-some
returns-clause-some c =
    read-some c.args.word.now c.in-Some-baud_word.baud.now 11 c.in-Some-baud_word.ensures.some
    c.rate_of-2.result c.rate_of-2.ensures.baud c.rate_of-2.ensures.bits

pub returns-clause-none : goal.returns-clause-none
returns-clause-none c =
    read-none c.args.word.now c.in-Some-baud_word.baud.now 11 c.in-Some-baud_word.ensures.some
    c.rate_of-2.result c.rate_of-2.ensures.none
