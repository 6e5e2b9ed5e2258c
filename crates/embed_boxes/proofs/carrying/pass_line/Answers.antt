use Rattle.std.proofs.Common.{arith, subst}
use Rattle.yasir_io.specs.Causes.{Rose}
use Rattle.embed_boxes.proofs.carrying.pass_line.Goals as goal

pub returns-clause-long : goal.returns-clause-long
returns-clause-long g c = omega (
  arith,
  c.loop-index.invariant.long,
  c.loop-index.auto.index-end,
  c.loop-index-test.false,
)

pub returns-in_default-clause-journal : goal.returns-in_default-clause-journal
returns-in_default-clause-journal g c = λ _. subst
    (λ n. Rose n (g.D.SlotDisk.faults c.step.new.disk)) c.loop-index.invariant.faults
    c.in_default.ensures.journal.cause.failed
