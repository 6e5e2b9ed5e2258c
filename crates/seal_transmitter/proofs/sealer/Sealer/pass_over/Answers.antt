use Rattle.{link_format.specs.Trailers.bytes_unsent, seal_transmitter.proofs.RunSteps.sent}
use Rattle.seal_transmitter.proofs.RunSteps.{sent-silent, drop-none, nothing-taken, extra-taken}
use Rattle.std.proofs.Common.{◌≡◌, ◌∙◌, [], sym, ap, take, arith}
use Rattle.std.proofs.lemmas.List.{length-take-le, nil_from_length}
use Rattle.yasir_ticks.specs.Ticks.{silent}
use Rattle.seal_transmitter.proofs.sealer.Sealer.pass_over.Goals as goal

pub returns-then-unsent-gt0-clause-run : goal.returns-then-unsent-gt0-clause-run
returns-then-unsent-gt0-clause-run g c = λ last setup line stands.
    nothing-taken g.R.LineRules g.M.Mac c.args.self.now last setup line stands

pub returns-clause-run : goal.returns-clause-run
returns-clause-run g c = λ last setup line stands.
    let none : bytes_unsent c.args.self.now.trailer ≡ [] =
    sym c.unsent.ensures.unsent ∙ nil_from_length c.unsent.result.now (omega arith) in
    extra-taken g.R.LineRules g.M.Mac c.args.self.now last setup line stands
    c.pass_over_some.new.self c.args.self.now.trailer c.pass_over_some.result
    (take c.pass_over_some.result c.args.bytes.now) (silent c.pass_over_some.result)
    (length-take-le c.pass_over_some.result c.args.bytes.now c.pass_over_some.ensures.within)
    (c.pass_over_some.ensures.stands line stands.cuts)
    (c.pass_over_some.ensures.extra line stands.cuts)
    (sym (drop-none c.pass_over_some.result (bytes_unsent c.args.self.now.trailer) none))
    (ap (λ l. sent c.pass_over_some.result l) none ∙ sent-silent c.pass_over_some.result)
