use Rattle.receiver_laws.proofs.Anew.{anew_reads_what_passed}
use Rattle.receiver_laws.proofs.HunterReadings.{hunt_reads_what_passed, hunter_reads_what_passed}
use Rattle.receiver_laws.proofs.hunting_laws.hunting_device_reads_what_passed.Goals as goal

pub returns-clause-hunt : goal.returns-clause-hunt
returns-clause-hunt g c = λ profile floor link.
    hunt_reads_what_passed g.R.Hunted.FIRST g.R.Hunted.SECOND g.R.LineRules.rules
    g.R.LineRules.headed g.R.LineRules.framed g.met.R.Hunted.hunted profile g.R.LineRules.lawful
    g.R.LineRules.spoiling floor link

pub returns-clause-anew : goal.returns-clause-anew
returns-clause-anew g c = λ cut profile floor link wide.
    anew_reads_what_passed cut wide g.R.Hunted.FIRST g.R.Hunted.SECOND g.R.LineRules.rules
    g.R.LineRules.headed g.R.LineRules.framed g.met.R.Hunted.hunted g.R.LineRules.lawful
    g.R.LineRules.spoiling profile floor link

pub returns-clause-others : goal.returns-clause-others
returns-clause-others g c = λ read hunter profile floor link.
    hunter_reads_what_passed g.R.Hunted.FIRST g.R.Hunted.SECOND g.R.LineRules.rules
    g.R.LineRules.headed g.R.LineRules.framed g.met.R.Hunted.hunted profile g.R.LineRules.lawful
    g.R.LineRules.spoiling read hunter floor link
