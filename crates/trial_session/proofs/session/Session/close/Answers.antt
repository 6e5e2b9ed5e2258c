use Rattle.{std.proofs.Common.◌∙◌, trial_session.proofs.Periods.same-summary}
use Rattle.trial_session.specs.Session.{session_line, altered_link}
use Rattle.trial_session.proofs.session.Session.close.Goals as goal

pub returns : goal.returns
returns g c = λ drawing behind seed count run.
    let link = altered_link drawing behind seed count
    (g.S.CountingBox.counting.other_line (session_line drawing seed count)) in
    let whole = c.take_silence.ensures.received link run.receives_link in
    same-summary _ _ _ _ _ _ _ _ _ _
    (c.through.ensures ∙ run.seals_line.through_is)
    (c.passed.ensures ∙ whole.checks_link.through_is)
    (c.refused.ensures ∙ whole.checks_link.refused_is)
    (c.dropped.ensures ∙ whole.checks_link.dropped_is)
    (c.read.ensures ∙ whole.hears_line.counts)
