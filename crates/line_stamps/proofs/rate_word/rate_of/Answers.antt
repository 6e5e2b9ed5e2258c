use Rattle.std.proofs.Common.{inl, inr, arith}
use Rattle.line_stamps.proofs.Words.{no-baud}
use Rattle.line_stamps.proofs.rate_word.rate_of.Goals as goal

pub returns-then-baud-lt-SLOWEST-clause-none : goal.returns-then-baud-lt-SLOWEST-clause-none
returns-then-baud-lt-SLOWEST-clause-none c =
    no-baud c.args.baud.now c.in_ok-baud.baud c.in_ok-baud.ensures.some (omega arith)
    (inl c.if-baud-lt-SLOWEST.true)

pub returns-then-baud-gt-FASTEST-clause-none : goal.returns-then-baud-gt-FASTEST-clause-none
returns-then-baud-gt-FASTEST-clause-none c =
    no-baud c.args.baud.now c.in_ok-baud.baud c.in_ok-baud.ensures.some (omega arith)
    (inr c.if-baud-gt-FASTEST.true)
