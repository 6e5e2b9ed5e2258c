use Rattle.device_model.proofs.HuntRuns.{after-letting}
use Rattle.device_model.proofs.hunting.HuntingDevice.hear_part.Goals as goal

pub returns-then-self-gt0-clause-takes : goal.returns-then-self-gt0-clause-takes
returns-then-self-gt0-clause-takes g c = c.go_on.ensures.takes c.args.at

pub returns-clause-takes : goal.returns-clause-takes
returns-clause-takes g c =
    after-letting g.R.LineRules g.R.Hunted.FIRST g.R.Hunted.SECOND g.met.R.Hunted.hunted
    c.args.self.now c.let_go.new.self c.seek.new.self c.args.at _ _ c.let_go.ensures.ticks
    c.let_go.ensures.hears c.seek.ensures.takes
