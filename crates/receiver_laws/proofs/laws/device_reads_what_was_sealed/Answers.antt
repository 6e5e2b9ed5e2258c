use Rattle.device_model.specs.Stated.{stated_rules, stated_reads, stated_silence}
use Rattle.receiver_laws.proofs.{Headline.reads-sealed, Stated.stated_lawful}
use Rattle.receiver_laws.proofs.Stated.{stated_reads_what_passed}
use Rattle.receiver_laws.proofs.laws.device_reads_what_was_sealed.Goals as goal

pub returns : goal.returns
returns c = λ device profile within seal_floor check_floor line link.
    reads-sealed (stated_rules device) (stated_lawful device) (stated_reads device)
    (stated_silence device) profile (stated_reads_what_passed device profile within) seal_floor
    check_floor line link
