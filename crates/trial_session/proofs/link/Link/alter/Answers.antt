use Rattle.std.proofs.Common.{◌≡◌, ◌∙◌, ◌-◌, ◌++◌, ap, arith, length, take}
use Rattle.trial_session.{proofs.Lists.cut-off, proofs.Behind.link-long, specs.Links.link_sent}
use Rattle.yasir_ticks.specs.Ticks.{silent}
use Rattle.trial_session.proofs.link.Link.alter.Goals as goal

pub returns-in-Lose-clause-sent : goal.returns-in-Lose-clause-sent
returns-in-Lose-clause-sent c =
    let sent = link_sent c.args.self.now in
    let all : length sent - 0 ≡ length sent = omega arith in
    rw c.in-Lose.is (c.silence_behind.ensures.sent ∙ ap silent all)

pub returns-in-CutOff-clause-sent : goal.returns-in-CutOff-clause-sent
returns-in-CutOff-clause-sent c =
    let link = c.args.self.now in
    let sent = link_sent link in
    let long = link-long link ∙ c.requires in
    rw c.in-CutOff.is
    (c.silence_behind-in-CutOff.ensures.sent
    ∙ ap (λ n. take c.min.result sent ++ silent (n - c.min.result)) long
    ∙ cut-off sent c.in-CutOff.place c.min.result long c.min.ensures)
