use Rattle.{link_format.specs.Trailers.bytes_unsent, seal_transmitter.proofs.RunSteps.sent-bytes}
use Rattle.seal_transmitter.{proofs.RunSteps.open-taken, specs.Runs.SealerHasTakenRun}
use Rattle.std.proofs.Common.{◌≡◌, ◌∙◌, ◌≤◌, ℕ, List, sym, ap, subst, map, length, arith}
use Rattle.std.proofs.lemmas.List.{length-take-le}
use Rattle.yasir_ticks.specs.{Ticks.silent, declared.tick.Tick.TheVariants.Byte}
use Rattle.seal_transmitter.proofs.sealer.Sealer.send_some.Goals as goal

pub returns-clause-run : goal.returns-clause-run
returns-clause-run g c = λ last setup line stands.
    let count : ℕ = c.wait_open-count.result in
    let unsent : List ℕ = bytes_unsent c.args.self.now.trailer in
    let within = c.wait_open-count.ensures.within in
    let size = ap length c.unsent.ensures.unsent in
    let few : count ≤ length unsent = omega arith in
    let long : length c.send_some.result.items ≡ count =
    ap length c.send_some.ensures.sent ∙ length-take-le count unsent few in
    let P : ℕ → Type 0 = λ k. SealerHasTakenRun g.R.LineRules g.M.Mac
    (record c.args.self.now { cut = c.wait_open-count.new.cut; trailer = c.send_some.new.self })
    last setup line (silent k) (map Byte c.send_some.result.items) in
    subst P (sym long)
    (open-taken g.R.LineRules g.M.Mac c.args.self.now last setup line stands
    c.wait_open-count.new.cut c.send_some.new.self count (map Byte c.send_some.result.items)
    (c.wait_open-count.ensures.stands line stands.cuts)
    (c.wait_open-count.ensures.open line stands.cuts)
    c.send_some.ensures.unsent
    (sent-bytes count unsent few ∙ ap (λ x. map Byte x) (sym c.send_some.ensures.sent)))
