use Rattle.std.proofs.Common.{arith}
use Rattle.poll_session.proofs.session.PollSession.run_out.Goals as goal

pub loop-preserved : goal.loop-preserved
loop-preserved g c =
    let before = c.loop.invariant in
    let step = c.in-Ok.ensures in (
      step.able,
      (λ delay bound set_up. step.set_up delay bound (before.1 delay bound set_up)),
      (λ seed run. step.run seed (before.2 seed run)),
      omega (arith, before.3, step.ticks),
      omega (arith, before.4, step.grows),
    )
