use Rattle.link_box.proofs.Answered.{answered-all, answered-none}
use Rattle.seal_transmitter.{proofs.RunSteps.run-behind, specs.Runs.SealerHasTakenRun}
use Rattle.std.proofs.Common.{◌≡◌, ap, arith, map, take, sym, subst, List}
use Rattle.yasir_ticks.specs.declared.tick.Tick.{Tick, TheVariants.Byte}
use Rattle.seal_transmitter.proofs.sealer.Sealer.pass_bytes.Goals as goal

pub returns-then-held-gt0-clause-run : goal.returns-then-held-gt0-clause-run
returns-then-held-gt0-clause-run g c = λ last setup line stands.
    subst (λ (x : List Tick). SealerHasTakenRun g.R.LineRules g.M.Mac c.hold_some-held.new.self
    last setup line
    (map Byte (take c.hold_some-held.result c.args.bytes.now)) x)
    (answered-none c.hold_some-held.result c.clear.new.self.items c.clear.ensures)
    (c.hold_some-held.ensures.run last setup line stands)

pub returns-clause-run : goal.returns-clause-run
returns-clause-run g c = λ last setup line stands.
    let zero : c.hold_some-held.result ≡ 0 = omega arith in
    let sent = run-behind g.R.LineRules g.M.Mac last
    c.hold_some-held.new.self c.send_over.new.self setup line _ _ _ _
    (ap (λ k. map Byte (take k c.args.bytes.now)) zero)
    (c.hold_some-held.ensures.run last setup line stands)
    (λ still. c.send_over.ensures.run last setup line still) in
    subst (λ (x : List Tick). SealerHasTakenRun g.R.LineRules g.M.Mac c.send_over.new.self
    last setup line
    (map Byte (take c.put.result c.args.bytes.now)) x)
    (answered-all c.put.result c.send_over.result.items c.put.new.sent.items
    c.put.ensures.count c.put.ensures.items)
    (subst (λ n. SealerHasTakenRun g.R.LineRules g.M.Mac c.send_over.new.self
    last setup line
    (map Byte (take n c.args.bytes.now)) (map Byte c.send_over.result.items))
    (sym c.put.ensures.count) sent)
