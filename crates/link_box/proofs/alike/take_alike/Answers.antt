use Rattle.{link_box.proofs.TakenRuns.takes-behind, std.proofs.Common.◌≡◌, std.proofs.Common.ap}
use Rattle.{std.proofs.Common.arith, std.proofs.Common.take, yasir_ticks.specs.TickRun.run_ticks}
use Rattle.link_box.proofs.alike.take_alike.Goals as goal

pub returns-clause-run : goal.returns-clause-run
returns-clause-run g c =
    let zero : c.forward_alike-forwarded.result ≡ 0 = omega arith in
    takes-behind g.X.LinkBox.walking g.X.LinkBox.stands c.args.line_box.now c.pass.new.self
    c.forward_alike-forwarded.new.line_box _ _ _ _
    (ap (λ n. take n (run_ticks c.args.run)) zero) c.forward_alike-forwarded.ensures.run
    c.pass.ensures.run
