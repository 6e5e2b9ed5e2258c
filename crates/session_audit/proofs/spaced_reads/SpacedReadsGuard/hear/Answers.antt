use Rattle.std.proofs.Common.{arith, subst, sym}
use Rattle.std.proofs.lemmas.Result.{on_ok_weaker}
use Rattle.session_lists.specs.ReplayLists.{Listens}
use Rattle.session_audit.specs.SpacedReads.{most_waiting}
use Rattle.session_audit.proofs.spaced_reads.SpacedReadsGuard.hear.Goals as goal

pub step-step-requires : goal.step-step-requires
step-step-requires g c = let room = c.requires in grind arith

pub hear_into-requires : goal.hear_into-requires
hear_into-requires g c = let room = c.requires in grind arith

pub returns-clause-taken : goal.returns-clause-taken
returns-clause-taken g c = on_ok_weaker c.hear_into.result (λ ok.
    let first = c.step-step.ensures.taken in
    let then = c.hear_into.ensures.taken in
    grind arith) c.hear_into.ensures.ok

pub returns-clause-stands : goal.returns-clause-stands
returns-clause-stands g c = on_ok_weaker c.hear_into.result (λ ok line stands. record {
  spaces = c.step-step.ensures.stands most_waiting line stands.spaces;
  reads = subst (Listens g.V.Device c.hear_into.new.device c.hear_into.new.frames)
      (sym (c.step-step.ensures.answer most_waiting line stands.spaces).ticks_leave)
      (ok _ stands.reads);
}) c.hear_into.ensures.ok
