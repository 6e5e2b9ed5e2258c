use Rattle.yasir_c.{proofs.Causes.hands-nothing, proofs.Holding.put-back}
use Rattle.yasir_c.specs.Edge.{CommittedBy}
use Rattle.yasir_c.proofs.exports.committed.Goals as goal

pub returns-in-Err : goal.returns-in-Err
returns-in-Err c =
    put-back (λ o n. CommittedBy o n c.args.ok c.args.answer.now c.args.answer.now c.in-Err.status)
    _ _ _ _ _ c.in-Some.ensures.out c.deref_mut.ensures.value c.put_in.ensures
    (hands-nothing _ _ c.args.ok c.args.answer.now c.in-Err.status c.in-Err.ensures.kept)
