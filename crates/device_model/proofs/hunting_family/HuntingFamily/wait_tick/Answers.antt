use Rattle.std.proofs.Common.{◌∙◌, ◌+◌, sym, refl}
use Rattle.device_model.proofs.{HuntFamilyLaws.waits, HuntFamilyLaws.loses, HuntSteps.empty-held}
use Rattle.device_model.proofs.hunting_family.HuntingFamily.wait_tick.Goals as goal

pub returns-then-not-wait-clause-stands : goal.returns-then-not-wait-clause-stands
returns-then-not-wait-clause-stands g c = λ cut line heard.
    (waits g.R.LineRules g.R.Hunted.FIRST g.R.Hunted.SECOND cut c.args.self.now _ line heard
    c.wait.ensures.cut refl c.wait.ensures.quiet
    (sym c.wait.ensures.parts ∙ c.if-not-wait.true) (λ held. held)).stands

pub returns-then-not-wait-clause-answer : goal.returns-then-not-wait-clause-answer
returns-then-not-wait-clause-answer g c = λ cut line heard.
    (waits g.R.LineRules g.R.Hunted.FIRST g.R.Hunted.SECOND cut c.args.self.now
    (record {
      device = record c.args.self.now.device { ticks = c.args.self.now.device.ticks + 1 };
      silence = c.wait.new.self;
    }) line heard c.wait.ensures.cut refl c.wait.ensures.quiet
    (sym c.wait.ensures.parts ∙ c.if-not-wait.true) (λ held. held)).is

pub returns-clause-stands : goal.returns-clause-stands
returns-clause-stands g c = λ cut line heard.
    (loses g.R.LineRules g.R.Hunted.FIRST g.R.Hunted.SECOND cut c.args.self.now
    (record { device = c.lose.new.self; silence = c.wait.new.self }) line heard c.wait.ensures.cut
    c.lose.ensures.ticks c.wait.ensures.quiet g.met.R.Hunted.hunted
    (sym c.wait.ensures.parts ∙ c.if-not-wait.false)
    (empty-held c.lose.new.self c.lose.ensures.lends c.lose.ensures.bytes)
    c.lose.ensures.lacking).stands

pub returns-clause-answer : goal.returns-clause-answer
returns-clause-answer g c = λ cut line heard.
    (loses g.R.LineRules g.R.Hunted.FIRST g.R.Hunted.SECOND cut c.args.self.now
    (record { device = c.lose.new.self; silence = c.wait.new.self }) line heard c.wait.ensures.cut
    c.lose.ensures.ticks c.wait.ensures.quiet g.met.R.Hunted.hunted
    (sym c.wait.ensures.parts ∙ c.if-not-wait.false)
    (empty-held c.lose.new.self c.lose.ensures.lends c.lose.ensures.bytes)
    c.lose.ensures.lacking).is
