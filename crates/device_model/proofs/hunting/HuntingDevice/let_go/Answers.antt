use Rattle.device_model.proofs.HuntSteps.{same-heard, empty-held}
use Rattle.std.proofs.{Common.◌∙◌, Common.sym, lemmas.Bool.cond-true}
use Rattle.device_model.proofs.hunting.HuntingDevice.let_go.Goals as goal

pub returns-then-self-clause-hears : goal.returns-then-self-clause-hears
returns-then-self-clause-hears g c = λ x heard.
    same-heard g.R.LineRules g.R.Hunted.FIRST g.R.Hunted.SECOND g.met.R.Hunted.hunted
    c.args.self.now c.lose.new.self x c.lose.ensures.rules
    (empty-held c.lose.new.self c.lose.ensures.lends c.lose.ensures.bytes
    ∙ sym (cond-true _ _ _ c.if-self.true))
    (c.lose.ensures.lacking ∙ sym c.requires) c.lose.ensures.start heard
