use Rattle.device_model.proofs.HuntSteps.{silence-stands, silence-reads, byte-stands, byte-reads}
use Rattle.device_model.proofs.hunting.HuntingDeviceDevice.step.Goals as goal

pub returns-in-Byte-clause-stands : goal.returns-in-Byte-clause-stands
returns-in-Byte-clause-stands g c = λ line heard.
    byte-stands g.R.LineRules g.R.Hunted.FIRST g.R.Hunted.SECOND g.met.R.Hunted.hunted
    c.args.self.now c.hear_byte.new.self c.args.t c.in-Byte.byte c.in-Byte.is _ c.hear_byte.ensures line heard

pub returns-in-Byte-clause-answer : goal.returns-in-Byte-clause-answer
returns-in-Byte-clause-answer g c = λ line heard.
    byte-reads g.R.LineRules g.R.Hunted.FIRST g.R.Hunted.SECOND g.met.R.Hunted.hunted
    c.args.self.now c.hear_byte.new.self c.args.t c.in-Byte.byte c.in-Byte.is _ c.hear_byte.ensures line heard

pub returns-in-Silent-clause-stands : goal.returns-in-Silent-clause-stands
returns-in-Silent-clause-stands g c = λ line heard.
    silence-stands g.R.LineRules g.R.Hunted.FIRST g.R.Hunted.SECOND g.met.R.Hunted.hunted
    c.args.self.now c.args.t c.in-Silent.is line heard

pub returns-in-Silent-clause-answer : goal.returns-in-Silent-clause-answer
returns-in-Silent-clause-answer g c = λ line heard.
    silence-reads g.R.LineRules g.R.Hunted.FIRST g.R.Hunted.SECOND g.met.R.Hunted.hunted
    c.args.t c.in-Silent.is line
