use Rattle.std.proofs.Common.{arith, refl, subst, sym}
use Rattle.session_lists.specs.FrameList.{Holds}
use Rattle.session_lists.specs.ReplayLists.{kept_reads}
use Rattle.session_audit.proofs.spaced_reads.SpacedReadsGuard.new.Goals as goal

pub returns-in-Ok-clause-stands : goal.returns-in-Ok-clause-stands
returns-in-Ok-clause-stands g c = record {
  spaces = c.in-Ok.ensures.stands;
  reads = record {
    hears = c.fresh.ensures.stands;
    holds = subst (λ x. Holds c.new-in-Ok.result (kept_reads x)) (sym c.fresh.ensures.nothing)
        c.new-in-Ok.ensures;
  };
}
