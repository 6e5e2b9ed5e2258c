use Rattle.device_model.{proofs.HuntFamilyLaws.hears, specs.Frames.frames_lent}
use Rattle.device_model.proofs.hunting_family.HuntingFamily.hear_byte.Goals as goal

pub returns-clause-stands : goal.returns-clause-stands
returns-clause-stands g c = λ cut line heard.
    (hears g.R.LineRules g.R.Hunted.FIRST g.R.Hunted.SECOND cut c.args.self.now
    (record { device = c.hear_byte.new.self; silence = c.end.new.self }) line heard c.end.ensures.cut
    c.hear_byte.ensures.ticks c.args.byte (frames_lent c.hear_byte.result c.hear_byte.new.self.bytes.items) c.end.ensures.quiet
    c.hear_byte.ensures.hears c.hear_byte.ensures.reads).stands

pub returns-clause-answer : goal.returns-clause-answer
returns-clause-answer g c = λ cut line heard.
    (hears g.R.LineRules g.R.Hunted.FIRST g.R.Hunted.SECOND cut c.args.self.now
    (record { device = c.hear_byte.new.self; silence = c.end.new.self }) line heard c.end.ensures.cut
    c.hear_byte.ensures.ticks c.args.byte (frames_lent c.hear_byte.result c.hear_byte.new.self.bytes.items) c.end.ensures.quiet
    c.hear_byte.ensures.hears c.hear_byte.ensures.reads).is
