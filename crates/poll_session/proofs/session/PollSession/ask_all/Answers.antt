use Rattle.std.proofs.Common.{arith}
use Rattle.poll_session.proofs.session.PollSession.ask_all.Goals as goal

pub loop-self-preserved : goal.loop-self-preserved
loop-self-preserved g c =
    let before = c.loop-self.invariant in
    let step = c.in-Ok.ensures in
    let below = c.loop-self-test.true in (
      step.able,
      (λ delay bound set_up. step.set_up delay bound (before.1 delay bound set_up)),
      (λ seed run. step.run seed (before.2 seed run)),
      omega (arith, before.3, step.ticks, below),
    )
