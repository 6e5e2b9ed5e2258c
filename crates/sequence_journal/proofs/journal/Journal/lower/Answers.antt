use Rattle.std.proofs.Common.{◌≤◌, arith}
use Rattle.sequence_journal.specs.declared.numbers.TheConstants.{LIMIT}
use Rattle.sequence_journal.proofs.LateLemmas.{holds_there}
use Rattle.sequence_journal.proofs.journal.Journal.lower.Goals as goal

pub drop_to-requires-clause-other : goal.drop_to-requires-clause-other
drop_to-requires-clause-other g c =
    let within : c.args.n ≤ LIMIT = omega (arith, c.requires.below, c.args.self.now.within) in
    rw (c.in_ok-fill.ensures.link, c.in_ok-fill.ensures.kept_slot)
    (holds_there _ _ _ _ c.args.n within c.in_ok-fill.ensures.set)
