use Rattle.check_receiver.proofs.{Lending.same-taken, RestRuns.silence-begin_none}
use Rattle.check_receiver.proofs.RunsTaken.{flow-counted}
use Rattle.std.proofs.{Common.◌-◌, Common.arith, Common.ℕ, lemmas.List.length-replicate}
use Rattle.yasir_ticks.specs.{Ticks.silent, declared.tick.Tick.TheVariants.Silent}
use Rattle.check_receiver.proofs.checker.Checker.rest_some.Goals as goal

pub returns-then-self-lt2-clause-run : goal.returns-then-self-lt2-clause-run
returns-then-self-lt2-clause-run g c = λ last setup line stands.
    same-taken g.R.LineRules g.M.Mac c.args.self.now last setup line stands c.args.sent.now.items
    c.requires.empty

pub returns-clause-run : goal.returns-clause-run
returns-clause-run g c = λ last setup line stands.
    let old = c.args.self.now in
    let n : ℕ = c.front_alike-count.result in
    let within = c.front_alike-count.ensures.within in
    let most = c.min-most.ensures in
    let first = c.min.ensures in
    let widened = c.from-still.ensures in
    let some = c.if-self-lt2.false in
    let still = c.if-self-eq0.false in
    flow-counted g.R.LineRules g.M.Mac old last setup line stands c.wait_some.new.self
    c.pass_silence.new.self n c.lend.new.sent.items (old.until - n)
    (omega arith) c.front_alike-count.ensures.alike
    (silent n) n (length-replicate n Silent) c.requires.phase (omega arith)
    (omega arith) (c.wait_some.ensures.stands line stands.cuts)
    (silence-begin_none g.R.LineRules.rules n line) c.lend.ensures c.pass_silence.ensures
    (omega arith)
