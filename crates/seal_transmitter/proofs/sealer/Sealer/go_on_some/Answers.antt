use Rattle.{frame_ending.specs.SoFar.start_so_far, seal_transmitter.proofs.RunSteps.nothing-taken}
use Rattle.seal_transmitter.{proofs.RunSteps.forward-taken, specs.Runs.SealerHasTakenRun}
use Rattle.std.proofs.Common.{◌≡◌, ◌∙◌, ◌++◌, ℕ, List, sym, subst, take, map, ap, arith, append-nil}
use Rattle.{std.proofs.lemmas.Bool.ltb-false, yasir_ticks.specs.declared.tick.Tick.TheVariants.Byte}
use Rattle.seal_transmitter.proofs.sealer.Sealer.go_on_some.Goals as goal

pub returns-then-is_early-clause-run : goal.returns-then-is_early-clause-run
returns-then-is_early-clause-run g c = λ last setup line stands.
    nothing-taken g.R.LineRules g.M.Mac c.args.self.now last setup line stands

pub returns-then-count-eq0-clause-run : goal.returns-then-count-eq0-clause-run
returns-then-count-eq0-clause-run g c = λ last setup line stands.
    let x : List ℕ = c.args.bytes.now in
    let n : ℕ = c.go_on_some-count.result in
    let zero : n ≡ 0 = omega arith in
    let P : ℕ → Type 0 = λ k. SealerHasTakenRun g.R.LineRules g.M.Mac
    (record c.args.self.now { cut = c.go_on_some-count.new.self }) last setup
    line (map Byte (take k x)) (map Byte (take k x)) in
    subst P zero
    (forward-taken g.R.LineRules g.M.Mac c.args.self.now last setup line stands
    c.go_on_some-count.new.self c.args.self.now.mac (take n x)
    (c.go_on_some-count.ensures.stands line stands.cuts)
    (c.go_on_some-count.ensures.live line stands.cuts)
    (ltb-false (start_so_far line) c.args.self.now.earliest_start
    (sym (c.is_early.ensures line stands.cuts) ∙ c.if-is_early.false))
    (λ text mac_is. subst (λ (y : List ℕ). g.M.Mac.stands c.args.self.now.mac setup.key y)
    (sym (ap (λ k. text ++ take k x) zero ∙ append-nil text)) mac_is))

pub returns-clause-run : goal.returns-clause-run
returns-clause-run g c = λ last setup line stands.
    forward-taken g.R.LineRules g.M.Mac c.args.self.now last setup line stands
    c.go_on_some-count.new.self c.update.new.self (take c.go_on_some-count.result c.args.bytes.now)
    (c.go_on_some-count.ensures.stands line stands.cuts)
    (c.go_on_some-count.ensures.live line stands.cuts)
    (ltb-false (start_so_far line) c.args.self.now.earliest_start
    (sym (c.is_early.ensures line stands.cuts) ∙ c.if-is_early.false))
    (λ text mac_is. c.update.ensures setup.key text mac_is)
