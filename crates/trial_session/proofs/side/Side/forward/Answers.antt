use Rattle.std.proofs.Common.{◌∙◌, ◌++◌, ap, subst, arith, length, sym, take}
use Rattle.std.proofs.lemmas.List.{take_all, length-drop, append-nil}
use Rattle.trial_session.{proofs.SentRuns.run-more, specs.Links.link_sent, specs.Sides.SideHasSent}
use Rattle.yasir_ticks.specs.TickRun.{run_ticks}
use Rattle.trial_session.proofs.side.Side.forward.Goals as goal

pub loop-at-init : goal.loop-at-init
loop-at-init g c = (
  omega arith,
  c.requires.able,
  omega arith,
  omega arith,
  λ line more sent. subst (λ l. SideHasSent g.X.LinkBox g.X.CountingBox.counting c.args.self.now line l
      (link_sent c.args.link.now)) (sym (append-nil more)) sent,
)

pub loop-at-preserved : goal.loop-at-preserved
loop-at-preserved g c =
    let at = c.loop-at.at in
    let ticks = run_ticks c.args.run in
    let n = c.send_on-at.result in
    let before = c.loop-at.invariant in
    let left = ap length c.behind.ensures ∙ length-drop at ticks in
    let within = c.send_on-at.ensures.within in (
      omega (arith, before.0, left, within),
      c.send_on-at.ensures.able,
      omega (arith, c.send_on-at.ensures.taken, before.2),
      omega (arith, c.send_on-at.ensures.len, before.3),
      λ line more sent.
          subst (λ l. SideHasSent g.X.LinkBox g.X.CountingBox.counting c.send_on-at.new.self line l
          (link_sent c.send_on-at.new.link))
          (run-more at n ticks (run_ticks c.behind.result) more c.behind.ensures)
          (c.send_on-at.ensures.sent line (more ++ take at ticks) (before.4 line more sent)),
    )

pub returns-clause-sent : goal.returns-clause-sent
returns-clause-sent g c = λ line more sent.
    subst (λ l. SideHasSent g.X.LinkBox g.X.CountingBox.counting c.loop-at.self line (more ++ l)
    (link_sent c.loop-at.link))
    (take_all c.loop-at.at (run_ticks c.args.run) (omega (
      arith,
      c.loop-at-test.false,
      c.len.ensures,
    )))
    (c.loop-at.invariant.4 line more sent)
