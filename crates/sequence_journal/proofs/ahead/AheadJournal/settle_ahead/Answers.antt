use Rattle.sequence_journal.proofs.LateLemmas.{lower_at_least}
use Rattle.std.proofs.Common.{arith}
use Rattle.sequence_journal.proofs.ahead.AheadJournal.settle_ahead.Goals as goal

pub returns-then-self-floor-clause-image : goal.returns-then-self-floor-clause-image
returns-then-self-floor-clause-image g c safe image may =
    lower_at_least _ _ _ image (omega (arith, c.if-self-floor.true, c.floor.ensures.value)) (safe.floors image may)
