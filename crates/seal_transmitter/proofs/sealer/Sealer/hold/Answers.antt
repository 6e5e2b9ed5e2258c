use Rattle.{frame_ending.specs.SoFar.start_so_far, link_format.specs.Trailers.bytes_unsent}
use Rattle.seal_transmitter.proofs.RunSteps.{sent, sent-silent, drop-none, nothing-taken}
use Rattle.seal_transmitter.proofs.RunSteps.{early-taken}
use Rattle.std.proofs.Common.{◌≡◌, ◌∙◌, [], sym, ap, take, arith}
use Rattle.std.proofs.lemmas.{Bool.ltb-true, List.length-take-le, List.nil_from_length}
use Rattle.yasir_ticks.specs.Ticks.{silent}
use Rattle.seal_transmitter.proofs.sealer.Sealer.hold.Goals as goal

pub returns-then-unsent-gt0-clause-run : goal.returns-then-unsent-gt0-clause-run
returns-then-unsent-gt0-clause-run g c = λ last setup line stands.
    nothing-taken g.R.LineRules g.M.Mac c.args.self.now last setup line stands

pub returns-then-not-is_early-clause-run : goal.returns-then-not-is_early-clause-run
returns-then-not-is_early-clause-run g c = λ last setup line stands.
    nothing-taken g.R.LineRules g.M.Mac c.args.self.now last setup line stands

pub returns-clause-run : goal.returns-clause-run
returns-clause-run g c = λ last setup line stands.
    let none : bytes_unsent c.args.self.now.trailer ≡ [] =
    sym c.unsent.ensures.unsent ∙ nil_from_length c.unsent.result.now (omega arith) in
    early-taken g.R.LineRules g.M.Mac c.args.self.now last setup line stands
    c.go_on_some.new.self c.args.self.now.trailer c.go_on_some.result
    (take c.go_on_some.result c.args.bytes.now) (silent c.go_on_some.result)
    (length-take-le c.go_on_some.result c.args.bytes.now c.go_on_some.ensures.within)
    (c.go_on_some.ensures.stands line stands.cuts)
    (c.go_on_some.ensures.live line stands.cuts)
    (ltb-true (start_so_far line) c.args.self.now.earliest_start
    (sym (c.is_early.ensures line stands.cuts) ∙ c.if-not-is_early.false))
    (sym (drop-none c.go_on_some.result (bytes_unsent c.args.self.now.trailer) none))
    (ap (λ l. sent c.go_on_some.result l) none ∙ sent-silent c.go_on_some.result)
