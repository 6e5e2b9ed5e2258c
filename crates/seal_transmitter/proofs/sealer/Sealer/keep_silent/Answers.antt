use Rattle.{link_format.specs.Trailers.bytes_unsent, seal_transmitter.proofs.RunSteps.sent}
use Rattle.seal_transmitter.proofs.RunSteps.{sent-silent, drop-none, nothing-taken, open-taken}
use Rattle.std.proofs.Common.{◌≡◌, ◌∙◌, [], sym, ap, arith}
use Rattle.{std.proofs.lemmas.List.nil_from_length, yasir_ticks.specs.Ticks.silent}
use Rattle.seal_transmitter.proofs.sealer.Sealer.keep_silent.Goals as goal

pub returns-then-unsent-gt0-clause-run : goal.returns-then-unsent-gt0-clause-run
returns-then-unsent-gt0-clause-run g c = λ last setup line stands.
    nothing-taken g.R.LineRules g.M.Mac c.args.self.now last setup line stands

pub returns-clause-run : goal.returns-clause-run
returns-clause-run g c = λ last setup line stands.
    let none : bytes_unsent c.args.self.now.trailer ≡ [] =
    sym c.unsent.ensures.unsent ∙ nil_from_length c.unsent.result.now (omega arith) in
    open-taken g.R.LineRules g.M.Mac c.args.self.now last setup line stands
    c.wait_open.new.cut c.args.self.now.trailer c.wait_open.result (silent c.wait_open.result)
    (c.wait_open.ensures.stands line stands.cuts) (c.wait_open.ensures.open line stands.cuts)
    (sym (drop-none c.wait_open.result (bytes_unsent c.args.self.now.trailer) none))
    (ap (λ l. sent c.wait_open.result l) none ∙ sent-silent c.wait_open.result)
