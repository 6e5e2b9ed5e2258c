use Rattle.check_receiver.proofs.{Journals.journal-kept, WholeSteps.silence-is}
use Rattle.check_receiver.proofs.WholeSteps.{taken-then, taken-silence, taken-ok, passes-err}
use Rattle.sequence_journal.specs.{Commits.HasFailed, Journal.journal_floor}
use Rattle.std.proofs.{Common.◌∙◌, Common.ap, lemmas.Result.on_ok_weaker}
use Rattle.check_receiver.proofs.checker.Checker.step.Goals as goal

pub returns-in-Start-clause-step : goal.returns-in-Start-clause-step
returns-in-Start-clause-step g c =
    taken-then g.R.LineRules g.M.Mac c.args.self.now (journal_floor c.args.journal.now)
    c.step-cut.new.self c.saturating_sub-self.result c.saturating_sub-self.ensures c.args.t
    c.step-cut.result c.step-cut.ensures.answer c.step-cut.ensures.stands _
    c.in-Start.is c.begin.new.self (journal_floor c.args.journal.now) c.begin.result
    (λ setup line between. c.begin.ensures.step (journal_floor c.args.journal.now) setup line
    c.args.t between)

pub returns-in-Live-clause-step : goal.returns-in-Live-clause-step
returns-in-Live-clause-step g c =
    taken-then g.R.LineRules g.M.Mac c.args.self.now (journal_floor c.args.journal.now)
    c.step-cut.new.self c.saturating_sub-self.result c.saturating_sub-self.ensures c.args.t
    c.step-cut.result c.step-cut.ensures.answer c.step-cut.ensures.stands _
    c.in-Live.is c.go_on.new.self (journal_floor c.args.journal.now) c.go_on.result
    (λ setup line between. c.go_on.ensures.step (journal_floor c.args.journal.now) setup line
    c.args.t between)

pub returns-in-Pause-clause-step : goal.returns-in-Pause-clause-step
returns-in-Pause-clause-step g c =
    taken-silence g.R.LineRules g.M.Mac c.args.self.now (journal_floor c.args.journal.now)
    c.step-cut.new.self c.saturating_sub-self.result c.saturating_sub-self.ensures c.args.t
    c.step-cut.result c.step-cut.ensures.answer c.step-cut.ensures.stands
    (silence-is c.step-cut.result c.in-Pause.is) c.wait.new.self
    (journal_floor c.args.journal.now) c.wait.result
    (λ setup line between. c.wait.ensures.step (journal_floor c.args.journal.now) setup line
    c.step-cut.result (silence-is c.step-cut.result c.in-Pause.is) between)

pub returns-in-Extra-clause-step : goal.returns-in-Extra-clause-step
returns-in-Extra-clause-step g c =
    taken-ok g.R.LineRules g.M.Mac c.args.self.now (journal_floor c.args.journal.now)
    c.step-cut.new.self c.saturating_sub-self.result c.saturating_sub-self.ensures c.args.t
    c.step-cut.result c.step-cut.ensures.answer c.step-cut.ensures.stands _
    c.in-Extra.is c.hear_extra.new.self (journal_floor c.hear_extra.new.journal)
    c.hear_extra.result c.hear_extra.ensures.step

pub returns-in-Extra-clause-err_passes : goal.returns-in-Extra-clause-err_passes
returns-in-Extra-clause-err_passes g c =
    passes-err g.R.LineRules g.M.Mac c.args.self.now (journal_floor c.args.journal.now)
    c.step-cut.new.self c.saturating_sub-self.result c.saturating_sub-self.ensures c.args.t
    c.step-cut.result c.step-cut.ensures.answer c.step-cut.ensures.stands _
    c.in-Extra.is
    (λ number. HasFailed c.args.journal.now c.hear_extra.new.journal
    (g.S.SlotDisk.told c.args.disk.now) (g.S.SlotDisk.told c.hear_extra.new.disk) number)
    c.hear_extra.result c.hear_extra.ensures.err_passes

pub returns-in-Start-clause-journal : goal.returns-in-Start-clause-journal
returns-in-Start-clause-journal g c = journal-kept g.S.SlotDisk c.args.journal.now c.args.disk.now
    (g.met.S.SlotDisk.only_now c.args.disk.now) c.requires.fits c.begin.result c.begin.ensures.note

pub returns-in-Live-clause-journal : goal.returns-in-Live-clause-journal
returns-in-Live-clause-journal g c = journal-kept g.S.SlotDisk c.args.journal.now c.args.disk.now
    (g.met.S.SlotDisk.only_now c.args.disk.now) c.requires.fits c.go_on.result c.go_on.ensures.note

pub returns-in-Pause-clause-journal : goal.returns-in-Pause-clause-journal
returns-in-Pause-clause-journal g c = journal-kept g.S.SlotDisk c.args.journal.now c.args.disk.now
    (g.met.S.SlotDisk.only_now c.args.disk.now) c.requires.fits c.wait.result c.wait.ensures.note

pub returns-in-Extra-clause-taken : goal.returns-in-Extra-clause-taken
returns-in-Extra-clause-taken g c = on_ok_weaker c.hear_extra.result
    (λ same. ap (λ cut. cut.taken) same ∙ c.step-cut.ensures.taken) c.hear_extra.ensures.cut
