use Rattle.device_model.specs.Stated.{stated_rules, stated_reads, stated_silence}
use Rattle.receiver_laws.proofs.Stated.{stated_lawful}
use Rattle.stations.proofs.{Centres.stated-centre, Sealed.centre-reads, Sealed.centre-reads_over}
use Rattle.stations.proofs.laws.centre_reads_what_was_sealed.Goals as goal

pub returns-clause-line : goal.returns-clause-line
returns-clause-line c = λ device profile within tags station i floors seal_floor line link.
    centre-reads (stated_rules device) (stated_lawful device) profile tags station i
    (stated_reads device) (stated_silence device)
    (λ at on. stated-centre profile tags station at device within on) floors seal_floor line link

pub returns-clause-uptimes : goal.returns-clause-uptimes
returns-clause-uptimes c = λ device profile within tags station i seal_floor floor seals checks
    sealing checking.
    centre-reads_over (stated_rules device) (stated_lawful device) profile tags station i
    (stated_reads device) (stated_silence device)
    (λ at on. stated-centre profile tags station at device within on) seal_floor floor seals checks
    sealing checking
