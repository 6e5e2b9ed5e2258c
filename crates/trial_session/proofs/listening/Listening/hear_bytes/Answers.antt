use Rattle.std.proofs.Common.{◌∙◌, ◌++◌, ap, subst, arith, length, map, refl}
use Rattle.std.proofs.lemmas.List.{take_all, take_rest, length-drop}
use Rattle.trial_session.proofs.{HeardRuns.hears-run, SentRuns.bytes-more}
use Rattle.trial_session.specs.Sides.{SideHasHeard}
use Rattle.yasir_ticks.specs.declared.tick.Tick.TheVariants.{Byte}
use Rattle.trial_session.proofs.listening.Listening.hear_bytes.Goals as goal

pub loop-at-preserved : goal.loop-at-preserved
loop-at-preserved g c =
    let at = c.loop-at.at in
    let bytes = c.args.bytes.now in
    let n = c.hear-met.result.taken in
    let before = c.loop-at.invariant in
    let left = ap length (take_rest bytes at) ∙ length-drop at bytes in
    let within = c.hear-met.ensures.within in (
      omega (arith, before.0, left, within),
      omega (
        arith,
        before.1,
        c.frames_in.ensures.few,
        c.hear-met.ensures.taken,
        c.hear-met.ensures.some,
        left,
        c.loop-at-test.true,
      ),
      omega (arith, c.hear-met.ensures.taken, before.2),
      λ line heard.
          let so = before.3 line heard in
          subst (SideHasHeard g.V.Device _) (bytes-more at n bytes line)
          (hears-run g.V.Device c.loop-at.self _ _ _ _ _ c.frames_in.result refl
          (c.hear-met.ensures.stands _ so.stands)
          (c.hear-met.ensures.answer _ so.stands)
          (c.frames_in.ensures.value _) so refl),
    )

pub returns-clause-heard : goal.returns-clause-heard
returns-clause-heard g c = λ line heard.
    subst (λ l. SideHasHeard g.V.Device c.loop-at.self (line ++ map (λ b. Byte b) l))
    (take_all c.loop-at.at c.args.bytes.now c.loop-at-test.false)
    (c.loop-at.invariant.3 line heard)
