use Rattle.check_receiver.proofs.{Lending.same-taken, RunsTaken.pause-taken}
use Rattle.check_receiver.specs.Phases.{is_open}
use Rattle.std.proofs.Common.{◌-◌, ap, arith, ℕ}
use Rattle.check_receiver.proofs.checker.Checker.pause_some.Goals as goal

pub returns-then-not-has_good_head-clause-run : goal.returns-then-not-has_good_head-clause-run
returns-then-not-has_good_head-clause-run g c = λ last setup line stands.
    same-taken g.R.LineRules g.M.Mac c.args.self.now last setup line stands c.args.sent.now.items
    c.requires.empty

pub returns-then-until-clause-run : goal.returns-then-until-clause-run
returns-then-until-clause-run g c = λ last setup line stands.
    same-taken g.R.LineRules g.M.Mac c.args.self.now last setup line stands c.args.sent.now.items
    c.requires.empty

pub returns-clause-run : goal.returns-clause-run
returns-clause-run g c = λ last setup line stands.
    let old = c.args.self.now in
    let n : ℕ = c.front_alike-count.result in
    let within = c.front_alike-count.ensures.within in
    let capped = c.min.ensures in
    let most = c.min-most.ensures in
    let first = c.min-2.ensures in
    let widened = c.from-until.ensures in
    let more = c.if-until.false in
    pause-taken g.R.LineRules g.M.Mac old last setup line stands c.wait_some.new.self
    c.pass_silence.new.self n c.lend.new.sent.items (old.until - n)
    (omega arith) c.front_alike-count.ensures.alike n
    (ap (λ p. is_open p) c.requires.phase)
    (c.has_good_head.ensures c.if-not-has_good_head.false line stands.cuts)
    (omega arith) (omega arith) (c.wait_some.ensures.stands line stands.cuts) c.lend.ensures
    c.pass_silence.ensures (omega arith)
