use Rattle.std.proofs.Common.{◌≡◌, ◌*◌, ◌+◌, suc, subst, sym, arith}
use Rattle.trial_session.specs.{Runs.HasRun, Runs.TrialMayGoOn, Summaries.session_summary}
use Rattle.trial_session.proofs.session.try_session.Goals as goal

pub loop-init : goal.loop-init
loop-init g c = (
  c.new-session.ensures.able,
  c.new-session.ensures.run g.R.DrawnFrames.drawing c.args.behind,
)

pub run_period-requires-clause-able : goal.run_period-requires-clause-able
run_period-requires-clause-able g c =
    let may = c.loop.invariant.0 in
    subst (TrialMayGoOn g.S.LinkBox g.C.LinkBox g.V.Device c.loop.session)
    (sym may.sealed_ticks) may

pub run_period-requires-clause-room : goal.run_period-requires-clause-room
run_period-requires-clause-room g c =
    omega (arith, c.loop.invariant.0.sealed_ticks, c.loop-test.true, c.ranges.count.fits)

pub loop-preserved : goal.loop-preserved
loop-preserved g c =
    let more : suc c.loop.counter ≡ c.loop.counter + 1 = omega arith in
    let ticks : g.S.LinkBox.taken c.loop.session.sealing.line_box + 640
    ≡ 640 * (c.loop.counter + 1) = omega (arith, c.loop.invariant.0.sealed_ticks) in (
      subst (TrialMayGoOn g.S.LinkBox g.C.LinkBox g.V.Device c.run_period.new.self) ticks
          c.run_period.ensures.able,
      subst (HasRun g.S.LinkBox g.S.CountingBox.counting g.C.LinkBox g.C.CountingBox.counting
          g.V.Device g.R.DrawnFrames.drawing c.args.behind
          c.run_period.new.self c.args.seed) more
          (c.run_period.ensures.run c.args.seed c.loop.counter c.loop.invariant.1),
    )

pub close-requires-clause-able : goal.close-requires-clause-able
close-requires-clause-able g c =
    let may = c.loop.invariant.0 in
    subst (TrialMayGoOn g.S.LinkBox g.C.LinkBox g.V.Device c.loop.session)
    (sym may.sealed_ticks) may

pub close-requires-clause-room : goal.close-requires-clause-room
close-requires-clause-room g c =
    omega (arith, c.loop.invariant.0.sealed_ticks, c.loop.auto.counter-end, c.ranges.count.fits)

pub returns : goal.returns
returns g c =
    let all : c.loop.counter ≡ c.args.count = omega arith in
    subst (λ n. c.close.result ≡ session_summary g.R.DrawnFrames.drawing c.args.behind
    g.S.CountingBox.counting g.C.CountingBox.counting g.V.Device.reads c.args.seed n) all
    (c.close.ensures g.R.DrawnFrames.drawing c.args.behind c.args.seed c.loop.counter
    c.loop.invariant.1)
