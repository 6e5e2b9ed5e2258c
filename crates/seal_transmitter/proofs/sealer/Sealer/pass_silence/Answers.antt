use Rattle.link_box.proofs.Answered.{answered-all, answered-none}
use Rattle.seal_transmitter.{proofs.RunSteps.nothing-taken, specs.Runs.SealerHasTakenRun}
use Rattle.std.proofs.Common.{map, sym, subst, List}
use Rattle.yasir_ticks.specs.Ticks.{silent}
use Rattle.yasir_ticks.specs.declared.tick.Tick.{Tick, TheVariants.Byte}
use Rattle.seal_transmitter.proofs.sealer.Sealer.pass_silence.Goals as goal

pub returns-then-unsent-eq0-clause-run : goal.returns-then-unsent-eq0-clause-run
returns-then-unsent-eq0-clause-run g c = λ last setup line stands.
    subst (λ (x : List Tick). SealerHasTakenRun g.R.LineRules g.M.Mac c.args.self.now
    last setup line (silent 0) x)
    (answered-none 0 c.clear.new.self.items c.clear.ensures)
    (nothing-taken g.R.LineRules g.M.Mac c.args.self.now last setup line stands)

pub returns-clause-run : goal.returns-clause-run
returns-clause-run g c = λ last setup line stands.
    subst (λ (x : List Tick). SealerHasTakenRun g.R.LineRules g.M.Mac c.send_some.new.self
    last setup line
    (silent c.put.result) x)
    (answered-all c.put.result c.send_some.result.items c.put.new.sent.items
    c.put.ensures.count c.put.ensures.items)
    (subst (λ n. SealerHasTakenRun g.R.LineRules g.M.Mac c.send_some.new.self
    last setup line
    (silent n) (map Byte c.send_some.result.items))
    (sym c.put.ensures.count)
    (c.send_some.ensures.run last setup line stands))
