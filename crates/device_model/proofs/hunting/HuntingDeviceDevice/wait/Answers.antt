use Rattle.device_model.proofs.HuntSteps.{silences-stand, silences-read}
use Rattle.std.proofs.{Common.◌∙◌, Common.sym, lemmas.List.append-nil}
use Rattle.device_model.proofs.hunting.HuntingDeviceDevice.wait.Goals as goal

pub returns-clause-stands : goal.returns-clause-stands
returns-clause-stands g c = λ line heard.
    silences-stand g.R.LineRules g.R.Hunted.FIRST g.R.Hunted.SECOND g.met.R.Hunted.hunted
    c.args.self.now c.args.ticks line heard

pub returns-clause-answer : goal.returns-clause-answer
returns-clause-answer g c = λ line heard.
    silences-read g.R.LineRules g.R.Hunted.FIRST g.R.Hunted.SECOND g.met.R.Hunted.hunted
    c.args.ticks line ∙ sym (append-nil _)

pub returns-clause-before : goal.returns-clause-before
returns-clause-before g c = λ n within line heard.
    silences-read g.R.LineRules g.R.Hunted.FIRST g.R.Hunted.SECOND g.met.R.Hunted.hunted n line
