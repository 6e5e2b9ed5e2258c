use Rattle.stations.proofs.Centres.{stated-centre}
use Rattle.stations.proofs.laws.centre_reads_what_passed.Goals as goal

pub returns : goal.returns
returns c = λ device profile within tags station floors link.
    stated-centre profile tags station floors device within link
