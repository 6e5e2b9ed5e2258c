use Rattle.{sequence_journal.proofs.NumberLaws.least-is, std.proofs.Common.arith}
use Rattle.sequence_journal.proofs.numbers.full_with.Goals as goal

pub returns-then-n-limit-clause-found : goal.returns-then-n-limit-clause-found
returns-then-n-limit-clause-found c = least-is c.args.words c.args.floor c.args.word c.requires.word

pub returns-else-n-limit-clause-none : goal.returns-else-n-limit-clause-none
returns-else-n-limit-clause-none c n least =
    let other = least-is c.args.words c.args.floor c.args.word c.requires.word in
    omega (arith, other.least n least.above least.has_word)
