use Rattle.yasir_c.proofs.{Causes.spaces-none, Holding.back-is, Holding.held-so}
use Rattle.yasir_c.specs.Holding.{SpacesNoTick}
use Rattle.yasir_c.proofs.spacer_exports.space.Goals as goal

pub returns-in-Err : goal.returns-in-Err
returns-in-Err c =
    let kept = c.in-Err.ensures.kept in
    spaces-none _ _ _ c.args.tick c.args.answer.now c.in-Err.status
    (back-is _ _ _ _ _ c.in-Some-taken_out.ensures.out c.deref_mut.ensures.value
    c.put_in.ensures kept.0)
    (held-so (λ o. SpacesNoTick o c.in-Err.status) _ _ _ c.in-Some-taken_out.ensures.out
    c.deref_mut.ensures.value kept.1)
