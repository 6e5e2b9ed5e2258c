use Rattle.device_model.specs.Stated.{stated_rules, stated_reads, stated_silence}
use Rattle.receiver_laws.proofs.Stated.{stated_lawful, stated_reads_what_passed}
use Rattle.stations.proofs.Sealed.{station-reads, station-reads_over}
use Rattle.stations.specs.Table.{profile_for}
use Rattle.stations.proofs.laws.stations_read_what_was_sealed.Goals as goal

pub returns-clause-line : goal.returns-clause-line
returns-clause-line c = λ device profile within tags station i floors check_floor line link.
    station-reads (stated_rules device) (stated_lawful device) profile tags station i
    (stated_reads device) (stated_silence device)
    (stated_reads_what_passed device (profile_for profile tags i) within) floors check_floor line link

pub returns-clause-uptimes : goal.returns-clause-uptimes
returns-clause-uptimes c = λ device profile within tags station i floor check_floor seals checks
    sealing checking.
    station-reads_over (stated_rules device) (stated_lawful device) profile tags station i
    (stated_reads device) (stated_silence device)
    (stated_reads_what_passed device (profile_for profile tags i) within) floor check_floor seals
    checks sealing checking
