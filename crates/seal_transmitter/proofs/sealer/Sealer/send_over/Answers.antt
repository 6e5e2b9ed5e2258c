use Rattle.{frame_ending.specs.SoFar.start_so_far, link_format.specs.Trailers.bytes_unsent}
use Rattle.seal_transmitter.proofs.RunSteps.{sent-bytes, nothing-taken, early-taken}
use Rattle.seal_transmitter.specs.Runs.{SealerHasTakenRun}
use Rattle.std.proofs.Common.{◌≡◌, ◌∙◌, ◌≤◌, ℕ, List, sym, ap, subst, take, map, length, arith}
use Rattle.std.proofs.lemmas.{Bool.ltb-true, List.length-take-le, List.take-take}
use Rattle.yasir_ticks.specs.declared.tick.Tick.TheVariants.{Byte}
use Rattle.seal_transmitter.proofs.sealer.Sealer.send_over.Goals as goal

pub returns-then-not-is_early-clause-run : goal.returns-then-not-is_early-clause-run
returns-then-not-is_early-clause-run g c = λ last setup line stands.
    let P : List ℕ → Type 0 = λ x. SealerHasTakenRun g.R.LineRules g.M.Mac c.args.self.now
    last setup line (map Byte (take (length x) c.args.bytes.now))
    (map Byte x) in
    subst P (sym c.new.ensures)
    (nothing-taken g.R.LineRules g.M.Mac c.args.self.now last setup line stands)

pub returns-clause-run : goal.returns-clause-run
returns-clause-run g c = λ last setup line stands.
    let count : ℕ = c.go_on_some-count.result in
    let unsent : List ℕ = bytes_unsent c.args.self.now.trailer in
    let among : List ℕ = take c.min-most.result c.args.bytes.now in
    let most : c.min-most.result ≤ length c.args.bytes.now = omega arith in
    let among_long = length-take-le c.min-most.result c.args.bytes.now most in
    let within = c.go_on_some-count.ensures.within in
    let size = ap length c.unsent.ensures.unsent in
    let few : count ≤ length unsent = omega arith in
    let fewer : count ≤ c.min-most.result = omega arith in
    let long : length c.send_some.result.items ≡ count =
    ap length c.send_some.ensures.sent ∙ length-take-le count unsent few in
    let P : List ℕ → Type 0 = λ x. SealerHasTakenRun g.R.LineRules g.M.Mac
    (record c.args.self.now { cut = c.go_on_some-count.new.self; trailer = c.send_some.new.self })
    last setup line (map Byte x) (map Byte c.send_some.result.items) in
    subst P (take-take count c.min-most.result c.args.bytes.now fewer
    ∙ ap (λ k. take k c.args.bytes.now) (sym long))
    (early-taken g.R.LineRules g.M.Mac c.args.self.now last setup line stands
    c.go_on_some-count.new.self c.send_some.new.self count (take count among)
    (map Byte c.send_some.result.items) (length-take-le count among within)
    (c.go_on_some-count.ensures.stands line stands.cuts)
    (c.go_on_some-count.ensures.live line stands.cuts)
    (ltb-true (start_so_far line) c.args.self.now.earliest_start
    (sym (c.is_early.ensures line stands.cuts) ∙ c.if-not-is_early.false))
    c.send_some.ensures.unsent
    (sent-bytes count unsent few ∙ ap (λ x. map Byte x) (sym c.send_some.ensures.sent)))
