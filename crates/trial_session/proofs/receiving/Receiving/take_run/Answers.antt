use Rattle.std.proofs.Common.{◌∙◌, ◌++◌, ap, subst, arith, length, take}
use Rattle.std.proofs.lemmas.List.{take_all, length-drop}
use Rattle.trial_session.{proofs.SentRuns.run-more, specs.Sides.IsReceiving}
use Rattle.yasir_ticks.specs.TickRun.{run_ticks}
use Rattle.trial_session.proofs.receiving.Receiving.take_run.Goals as goal

pub loop-at-preserved : goal.loop-at-preserved
loop-at-preserved g c =
    let at = c.loop-at.at in
    let ticks = run_ticks c.args.run in
    let n = c.take_some-at.result in
    let before = c.loop-at.invariant in
    let left = ap length c.behind.ensures ∙ length-drop at ticks in
    let within = c.take_some-at.ensures.within in (
      omega (arith, before.0, left, within),
      c.take_some-at.ensures.able,
      omega (arith, c.take_some-at.ensures.taken, before.2),
      λ link received.
          subst (IsReceiving g.C.LinkBox g.C.CountingBox.counting g.V.Device
          c.take_some-at.new.self c.take_some-at.new.waiting.items)
          (run-more at n ticks (run_ticks c.behind.result) link c.behind.ensures)
          (c.take_some-at.ensures.received (link ++ take at ticks) (before.3 link received)),
    )

pub returns-clause-received : goal.returns-clause-received
returns-clause-received g c = λ link received.
    subst (λ l. IsReceiving g.C.LinkBox g.C.CountingBox.counting g.V.Device c.loop-at.self
    c.loop-at.waiting.items (link ++ l))
    (take_all c.loop-at.at (run_ticks c.args.run) (omega (
      arith,
      c.loop-at-test.false,
      c.len.ensures,
    )))
    (c.loop-at.invariant.3 link received)
