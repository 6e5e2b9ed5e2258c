use Rattle.std.proofs.Common.{◌≡◌, ap, arith, map, take}
use Rattle.yasir_ticks.specs.declared.tick.Tick.TheVariants.{Byte}
use Rattle.seal_transmitter.proofs.RunSteps.{run-behind}
use Rattle.seal_transmitter.proofs.sealer.Sealer.hold_some.Goals as goal

pub returns-clause-run : goal.returns-clause-run
returns-clause-run g c = λ last setup line stands.
    let zero : c.hold-held.result ≡ 0 = omega arith in
    run-behind g.R.LineRules g.M.Mac last
    c.hold-held.new.self c.pass_over.new.self setup line _ _ _ _
    (ap (λ k. map Byte (take k c.args.bytes.now)) zero)
    (c.hold-held.ensures.run last setup line stands)
    (λ still. c.pass_over.ensures.run last setup line still)
