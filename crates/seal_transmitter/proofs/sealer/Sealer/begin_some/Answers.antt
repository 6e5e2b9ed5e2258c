use Rattle.seal_transmitter.proofs.Beginning.{first-of, begun-taken}
use Rattle.seal_transmitter.{proofs.RunSteps.nothing-taken, specs.Runs.SealerHasTakenRun}
use Rattle.std.proofs.Common.{◌≡◌, ◌∙◌, ℕ, List, [], ◌∷◌, map, take, sym, subst, arith}
use Rattle.yasir_ticks.specs.declared.tick.Tick.TheVariants.{Byte}
use Rattle.seal_transmitter.proofs.sealer.Sealer.begin_some.Goals as goal

pub returns-then-quiet-lt-T3_5_TICKS-clause-run : goal.returns-then-quiet-lt-T3_5_TICKS-clause-run
returns-then-quiet-lt-T3_5_TICKS-clause-run g c = λ last setup line stands.
    nothing-taken g.R.LineRules g.M.Mac c.args.self.now last setup line stands

pub returns-then-ticks-self-clause-run : goal.returns-then-ticks-self-clause-run
returns-then-ticks-self-clause-run g c = λ last setup line stands.
    nothing-taken g.R.LineRules g.M.Mac c.args.self.now last setup line stands

pub returns-in_default-clause-run : goal.returns-in_default-clause-run
returns-in_default-clause-run g c = λ last setup line stands.
    nothing-taken g.R.LineRules g.M.Mac c.args.self.now last setup line stands

pub returns-clause-run : goal.returns-clause-run
returns-clause-run g c = λ last setup line stands.
    let b : ℕ = c.in-Some.byte.now in
    let first : take 1 c.args.bytes.now ≡ b ∷ [] =
    first-of c.args.bytes.now b c.in-Some.ensures.value in
    let is = c.quiet.ensures line stands.cuts in
    let count = c.ticks.ensures.count line stands.cuts in
    let begun = c.update.ensures setup.key []
    (c.begin.ensures setup.key stands.walks.text stands.walks.mac_is) in
    let label : c.LABEL.result ≡ g.R.LineRules.rules.label =
    c.LABEL.ensures ∙ sym g.R.LineRules.numbers.label_is in
    let to : c.number.result ≡ setup.direction = c.number.ensures ∙ stands.direction_is in
    let L : ℕ → Type 0 = λ n. g.M.Mac.stands c.update.new.self setup.key
    (n ∷ c.number.result ∷ b ∷ []) in
    let D : ℕ → Type 0 = λ n. g.M.Mac.stands c.update.new.self setup.key
    (g.R.LineRules.rules.label ∷ n ∷ b ∷ []) in
    let P : List ℕ → Type 0 = λ x. SealerHasTakenRun g.R.LineRules g.M.Mac
    (record c.args.self.now { cut = c.step.new.self; mac = c.update.new.self })
    last setup line (map Byte x) (map Byte x) in
    subst P (sym first)
    (begun-taken g.R.LineRules g.M.Mac c.args.self.now last setup line stands
    c.step.new.self c.update.new.self b (omega arith) (omega arith)
    (c.step.ensures.stands line stands.cuts) (λ text mac_is. subst D to (subst L label begun)))
