use Rattle.std.proofs.Common.{◌≡◌, ◌++◌, subst, arith, refl}
use Rattle.trial_session.proofs.{HeardRuns.hears-run, SentRuns.silence-more}
use Rattle.{trial_session.specs.Sides.SideHasHeard, yasir_ticks.specs.Ticks.silent}
use Rattle.trial_session.proofs.listening.Listening.wait.Goals as goal

pub loop-at-preserved : goal.loop-at-preserved
loop-at-preserved g c =
    let at = c.loop-at.at in
    let n = c.wait-met.result.taken in
    let before = c.loop-at.invariant in (
      omega (arith, before.0, c.wait-met.ensures.within),
      omega (
        arith,
        before.1,
        c.frames_in.ensures.few,
        c.wait-met.ensures.taken,
        c.wait-met.ensures.some,
        c.loop-at-test.true,
      ),
      omega (arith, c.wait-met.ensures.taken, before.2),
      λ line heard.
          let so = before.3 line heard in
          subst (SideHasHeard g.V.Device _) (silence-more at n line)
          (hears-run g.V.Device c.loop-at.self _ _ _ _ _ c.frames_in.result refl
          (c.wait-met.ensures.stands _ so.stands)
          (c.wait-met.ensures.answer _ so.stands)
          (c.frames_in.ensures.value _) so refl),
    )

pub returns-clause-heard : goal.returns-clause-heard
returns-clause-heard g c = λ line heard.
    let end : c.loop-at.at ≡ c.args.ticks = omega (arith, c.loop-at.invariant.0) in
    subst (λ n. SideHasHeard g.V.Device c.loop-at.self (line ++ silent n)) end
    (c.loop-at.invariant.3 line heard)
