use Rattle.frame_ending.proofs.Running.{passing-is}
use Rattle.seal_transmitter.proofs.WholeSteps.{taken-then, taken-closed, seals-closed}
use Rattle.{sequence_journal.specs.Journal.journal_floor, std.proofs.Common.refl}
use Rattle.seal_transmitter.proofs.sealer.Sealer.step.Goals as goal

pub returns-in-Start-clause-step : goal.returns-in-Start-clause-step
returns-in-Start-clause-step g c =
    taken-then g.R.LineRules g.M.Mac c.args.self.now (journal_floor c.args.journal.now)
    c.step.new.self c.args.t c.step.result
    c.step.ensures.answer c.step.ensures.stands _ c.in-Start.is c.begin.new.self
    (journal_floor c.args.journal.now) c.begin.result
    (λ setup line between. c.begin.ensures.step (journal_floor c.args.journal.now) setup line
    c.args.t between)

pub returns-in-Live-clause-step : goal.returns-in-Live-clause-step
returns-in-Live-clause-step g c =
    taken-then g.R.LineRules g.M.Mac c.args.self.now (journal_floor c.args.journal.now)
    c.step.new.self c.args.t c.step.result
    c.step.ensures.answer c.step.ensures.stands _ c.in-Live.is c.go_on.new.self
    (journal_floor c.args.journal.now) c.go_on.result
    (λ setup line between. c.go_on.ensures.step (journal_floor c.args.journal.now) setup line
    c.args.t between)

pub returns-in-Extra-clause-step : goal.returns-in-Extra-clause-step
returns-in-Extra-clause-step g c =
    taken-then g.R.LineRules g.M.Mac c.args.self.now (journal_floor c.args.journal.now)
    c.step.new.self c.args.t c.step.result
    c.step.ensures.answer c.step.ensures.stands c.step.result refl c.pass.new.self
    (journal_floor c.args.journal.now) c.pass.result
    (λ setup line between. c.pass.ensures.step (journal_floor c.args.journal.now) setup line
    c.args.t c.step.result
    (passing-is c.step.result c.in-Extra.is) between)

pub returns-in-Closed-clause-step : goal.returns-in-Closed-clause-step
returns-in-Closed-clause-step g c =
    taken-closed g.R.LineRules g.M.Mac c.args.self.now (journal_floor c.args.journal.now)
    c.step.new.self c.args.t c.step.result
    c.step.ensures.answer c.step.ensures.stands c.in-Closed.is c.close.new.self
    (journal_floor c.close.new.journal) c.close.result
    c.close.ensures.step

pub returns-in-Closed-clause-err_seals : goal.returns-in-Closed-clause-err_seals
returns-in-Closed-clause-err_seals g c =
    seals-closed g.R.LineRules g.M.Mac c.args.self.now (journal_floor c.args.journal.now)
    c.step.new.self c.args.t c.step.result
    c.step.ensures.answer c.step.ensures.stands c.in-Closed.is c.close.new.self
    (journal_floor c.close.new.journal) c.close.result
    c.close.ensures.err_seals
