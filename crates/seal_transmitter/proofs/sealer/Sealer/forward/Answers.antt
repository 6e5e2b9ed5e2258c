use Rattle.seal_transmitter.proofs.RunSteps.{run-then, bytes-then}
use Rattle.seal_transmitter.specs.Runs.{SealerHasTakenRun}
use Rattle.std.proofs.Common.{◌≡◌, ◌∙◌, ◌+◌, ◌-◌, ◌++◌, ℕ, List, map, take, drop, subst, ap, length}
use Rattle.std.proofs.{Common.arith, lemmas.List.take-take}
use Rattle.yasir_ticks.specs.declared.tick.Tick.{Tick, TheVariants.Byte}
use Rattle.seal_transmitter.proofs.sealer.Sealer.forward.Goals as goal

pub returns-clause-run : goal.returns-clause-run
returns-clause-run g c = λ last setup line stands.
    let x : List ℕ = c.args.bytes.now in
    let d : ℕ = c.begin_some-begun.result in
    let k : ℕ = c.go_on_some-more.result in
    let begun = c.begin_some-begun.ensures.run last setup line stands in
    let more = c.go_on_some-more.ensures.run last setup (line ++ map Byte (take d x))
    begun.stands in
    let within = c.go_on_some-more.ensures.within in
    let fewer = c.begin_some-begun.ensures.within in
    let same : map Byte (take d x) ++ map Byte (take k (take (length x - d) (drop d x)))
    ≡ map Byte (take (d + k) x) =
    ap (λ y. map Byte (take d x) ++ map Byte y)
    (take-take k (length x - d) (drop d x) (omega arith)) ∙ bytes-then d k x in
    let P : List Tick → Type 0 = λ l. SealerHasTakenRun g.R.LineRules g.M.Mac c.go_on_some-more.new.self
    last setup line l l in
    subst P same
    (run-then g.R.LineRules g.M.Mac last c.begin_some-begun.new.self
    c.go_on_some-more.new.self setup line _ _ _ _ begun more)
