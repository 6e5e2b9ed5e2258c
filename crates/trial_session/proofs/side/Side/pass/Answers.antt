use Rattle.sequence_journal.specs.Journal.{journal_floor}
use Rattle.{std.proofs.Common.refl, trial_session.proofs.Counting.counts-run}
use Rattle.trial_session.{proofs.SentRuns.passes-run, specs.Boxes.trial_setup}
use Rattle.trial_session.proofs.side.Side.pass.Goals as goal

pub returns-clause-sent : goal.returns-clause-sent
returns-clause-sent g c = λ line taken.
    let ran = c.pass.ensures.run (journal_floor c.args.self.now.journal) trial_setup line
    taken.stands in
    passes-run g.X.LinkBox g.X.CountingBox.counting c.args.self.now _ line _ _ _ refl ran.stands
    refl refl refl taken
    (counts-run g.X.LinkBox.walking g.X.CountingBox.fate_of g.X.CountingBox.counting
    g.met.X.CountingBox.counts line _ _ ran.answers)
