use Rattle.std.proofs.Common.{◌≡◌, ◌∙◌, Some, sym, ap, arith}
use Rattle.sequence_journal.specs.Slots.{slot_bytes}
use Rattle.sequence_journal.proofs.SlotLemmas.{number_of_slot, different}
use Rattle.sequence_journal.proofs.numbers.number_in.Goals as goal
use Rattle.sequence_journal.proofs.numbers.number_in.Goals.{else-n-le-LIMIT-via-then-n-le-LIMIT+else-eq}
use Rattle.sequence_journal.proofs.numbers.number_in.Goals.{else-n-le-LIMIT-via-else-n-le-LIMIT}

pub returns-then-eq-clause-only : goal.returns-then-eq-clause-only
returns-then-eq-clause-only c n within is =
    ap Some (c.read_u64-n.ensures ∙ number_of_slot c.args.slot.now n c.args.link.now within is)

pub returns-else-n-le-LIMIT-clause-only : goal.returns-else-n-le-LIMIT-clause-only
returns-else-n-le-LIMIT-clause-only c n within is =
    let same : c.read_u64-n.result ≡ n =
    c.read_u64-n.ensures ∙ number_of_slot c.args.slot.now n c.args.link.now within is in
    elim c.else-n-le-LIMIT.branch [
      | else-n-le-LIMIT-via-then-n-le-LIMIT+else-eq w
          ↦ absurd (different _ _ _ w.if-eq.false w.eq.ensures
          (w.slot_of.ensures ∙ ap (λ n. slot_bytes n c.args.link.now) same ∙ sym is))
      | else-n-le-LIMIT-via-else-n-le-LIMIT w ↦ absurd (omega arith)
    ]
