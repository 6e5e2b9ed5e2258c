use Rattle.std.proofs.Common.{arith}
use Rattle.session_lists.proofs.RunFronts.{one-on}
use Rattle.session_lists.proofs.fronts.take_front.Goals as goal

pub returns-in-Ok-clause-takes : goal.returns-in-Ok-clause-takes
returns-in-Ok-clause-takes g c = one-on _ _ _ _ _ _ _ _ _ _ _ _ _
    (omega (arith, c.if-count-gt0.false)) c.first.ensures c.take_some-count.ensures.takes
    c.in-Ok.ensures.takes
