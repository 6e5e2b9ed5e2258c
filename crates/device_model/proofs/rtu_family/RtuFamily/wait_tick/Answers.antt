use Rattle.std.proofs.Common.{◌∙◌, ◌+◌, sym, refl}
use Rattle.device_model.specs.Frames.{frames_lent}
use Rattle.device_model.proofs.RtuFamilyLaws.{waits_on, ends}
use Rattle.device_model.proofs.rtu_family.RtuFamily.wait_tick.Goals as goal

pub returns-then-wait-clause-stands : goal.returns-then-wait-clause-stands
returns-then-wait-clause-stands c = λ cut gap line heard.
    (ends cut gap c.args.self.now
    (record c.args.self.now { silence = c.wait.new.self; ticks = c.args.self.now.ticks + 1 }) line
    heard c.wait.ensures.cut refl refl c.wait.ensures.quiet
    (sym c.wait.ensures.parts ∙ c.if-wait.true)
    (frames_lent c.close.result c.args.self.now.bytes.items) c.close.ensures).stands

pub returns-then-wait-clause-answer : goal.returns-then-wait-clause-answer
returns-then-wait-clause-answer c = λ cut gap line heard.
    (ends cut gap c.args.self.now
    (record c.args.self.now { silence = c.wait.new.self; ticks = c.args.self.now.ticks + 1 }) line
    heard c.wait.ensures.cut refl refl c.wait.ensures.quiet
    (sym c.wait.ensures.parts ∙ c.if-wait.true)
    (frames_lent c.close.result c.args.self.now.bytes.items) c.close.ensures).is

pub returns-clause-stands : goal.returns-clause-stands
returns-clause-stands c = λ cut gap line heard.
    (waits_on cut gap c.args.self.now _ line heard c.wait.ensures.cut refl refl
    c.wait.ensures.quiet (sym c.wait.ensures.parts ∙ c.if-wait.false) refl refl refl).stands

pub returns-clause-answer : goal.returns-clause-answer
returns-clause-answer c = λ cut gap line heard.
    (waits_on cut gap c.args.self.now
    (record c.args.self.now { silence = c.wait.new.self; ticks = c.args.self.now.ticks + 1 }) line
    heard c.wait.ensures.cut refl refl c.wait.ensures.quiet
    (sym c.wait.ensures.parts ∙ c.if-wait.false) refl refl refl).is
