use Rattle.{frame_ending.specs.Answered.answered, check_receiver.proofs.RestRuns.silence-begin_none}
use Rattle.check_receiver.{proofs.RunsTaken.idle-taken, specs.Runs.CheckerHasTakenRun}
use Rattle.std.proofs.Common.{sym, subst, List, ℕ}
use Rattle.std.proofs.lemmas.List.{length-replicate}
use Rattle.yasir_ticks.specs.{Ticks.silent, declared.tick.Tick.TheVariants.Silent}
use Rattle.check_receiver.proofs.checker.Checker.pass_silence.Goals as goal

pub returns-in-Idle-clause-run : goal.returns-in-Idle-clause-run
returns-in-Idle-clause-run g c = λ last setup line stands.
    let n : ℕ = c.args.ticks in
    let new = record c.args.self.now { cut = c.wait_some.new.self } in
    let Len : ℕ → Type 0 = λ k. CheckerHasTakenRun g.R.LineRules g.M.Mac new last setup line (silent n)
    (silent k) in
    let A : List ℕ → Type 0 = λ y. CheckerHasTakenRun g.R.LineRules g.M.Mac new last setup line (silent n)
    (answered n y) in
    subst A (sym c.clear.ensures) (subst Len (length-replicate n Silent)
    (idle-taken g.R.LineRules g.M.Mac c.args.self.now last setup line stands c.wait_some.new.self
    (silent n) c.in-Idle.is (c.wait_some.ensures.stands line stands.cuts)
    (silence-begin_none g.R.LineRules.rules n line)))
