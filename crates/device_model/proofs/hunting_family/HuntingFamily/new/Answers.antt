use Rattle.device_model.proofs.HuntFamilyLaws.{nothing-heard, nothing-read}
use Rattle.device_model.proofs.hunting_family.HuntingFamily.new.Goals as goal

pub returns-clause-stands : goal.returns-clause-stands
returns-clause-stands g c =
    nothing-heard g.R.LineRules g.R.Hunted.FIRST g.R.Hunted.SECOND c.args.cut _ c.new.ensures.cut
    c.new.ensures.quiet c.fresh.ensures.taken c.fresh.ensures.stands

pub returns-clause-nothing : goal.returns-clause-nothing
returns-clause-nothing g c =
    nothing-read g.R.Hunted.FIRST g.R.Hunted.SECOND g.R.LineRules.rules c.args.cut
