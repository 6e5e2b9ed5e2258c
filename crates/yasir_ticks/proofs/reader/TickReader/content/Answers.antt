use Rattle.std.proofs.Common.{inl, inr, arith}
use Rattle.yasir_ticks.proofs.Steps.{closes_start, closes_comment, closes_pairs, closes_number}
use Rattle.yasir_ticks.proofs.Steps.{closes_percent, closes_returned}
use Rattle.yasir_ticks.proofs.Steps.{open_pairs, open_half_pair, open_minus}
use Rattle.yasir_ticks.proofs.reader.TickReader.content.Goals as goal

pub returns-in-Start-clause-content : goal.returns-in-Start-clause-content
returns-in-Start-clause-content c =
    elim c.in-Start.is [
      | inl e ↦ rw e (closes_start _)
      | inr e ↦ rw e.1 (closes_comment e.0 _)
    ]

pub returns-then-is_empty-clause-content : goal.returns-then-is_empty-clause-content
returns-then-is_empty-clause-content c = rw c.in-Pairs.is (open_pairs _ (grind arith))

pub returns-else-is_empty-clause-content : goal.returns-else-is_empty-clause-content
returns-else-is_empty-clause-content c = rw c.in-Pairs.is (closes_pairs _ (grind arith))

pub returns-in-HalfPair-clause-content : goal.returns-in-HalfPair-clause-content
returns-in-HalfPair-clause-content c = rw c.in-HalfPair.is (open_half_pair _ _)

pub returns-in-Minus-clause-content : goal.returns-in-Minus-clause-content
returns-in-Minus-clause-content c = rw c.in-Minus.is (open_minus _)

pub returns-in-Number-clause-content : goal.returns-in-Number-clause-content
returns-in-Number-clause-content c = rw c.in-Number.is (closes_number _ _)

pub returns-in-Percent-clause-content : goal.returns-in-Percent-clause-content
returns-in-Percent-clause-content c = rw c.in-Percent.is (closes_percent _)

pub returns-in-Returned-clause-content : goal.returns-in-Returned-clause-content
returns-in-Returned-clause-content c = rw c.in-Returned.is (closes_returned _ _)
