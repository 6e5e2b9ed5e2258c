use Rattle.device_model.specs.Hunt.{hunt_line, hunt_anew}
use Rattle.receiver_laws.proofs.{Anew.anew_reads_what_passed, Headline.reads-sealed}
use Rattle.receiver_laws.proofs.HunterReadings.{hunt_reads_what_passed, hunter_reads_what_passed}
use Rattle.receiver_laws.proofs.hunting_laws.hunting_device_reads_what_was_sealed.Goals as goal

pub returns-clause-hunt : goal.returns-clause-hunt
returns-clause-hunt g c = λ profile seal_floor check_floor line link.
    reads-sealed g.R.LineRules.rules g.R.LineRules.lawful
    (hunt_line g.R.Hunted.FIRST g.R.Hunted.SECOND g.R.LineRules.rules) 0 profile
    (hunt_reads_what_passed g.R.Hunted.FIRST g.R.Hunted.SECOND g.R.LineRules.rules
    g.R.LineRules.headed g.R.LineRules.framed g.met.R.Hunted.hunted profile g.R.LineRules.lawful
    g.R.LineRules.spoiling)
    seal_floor check_floor line link

pub returns-clause-anew : goal.returns-clause-anew
returns-clause-anew g c = λ cut profile seal_floor check_floor line link wide.
    reads-sealed g.R.LineRules.rules g.R.LineRules.lawful
    (hunt_anew g.R.Hunted.FIRST g.R.Hunted.SECOND g.R.LineRules.rules cut 0) 0 profile
    (anew_reads_what_passed cut wide g.R.Hunted.FIRST g.R.Hunted.SECOND g.R.LineRules.rules
    g.R.LineRules.headed g.R.LineRules.framed g.met.R.Hunted.hunted g.R.LineRules.lawful
    g.R.LineRules.spoiling profile)
    seal_floor check_floor line link

pub returns-clause-others : goal.returns-clause-others
returns-clause-others g c = λ read hunter profile seal_floor check_floor line link.
    reads-sealed g.R.LineRules.rules g.R.LineRules.lawful (read 0) 0 profile
    (hunter_reads_what_passed g.R.Hunted.FIRST g.R.Hunted.SECOND g.R.LineRules.rules
    g.R.LineRules.headed g.R.LineRules.framed g.met.R.Hunted.hunted profile g.R.LineRules.lawful
    g.R.LineRules.spoiling read hunter)
    seal_floor check_floor line link
