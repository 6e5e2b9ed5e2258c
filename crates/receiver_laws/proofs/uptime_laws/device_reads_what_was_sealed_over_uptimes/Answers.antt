use Rattle.device_model.specs.Stated.{stated_rules, stated_reads, stated_silence}
use Rattle.receiver_laws.proofs.{Headline.reads-over, Stated.stated_lawful}
use Rattle.receiver_laws.proofs.Stated.{stated_reads_what_passed}
use Rattle.receiver_laws.proofs.uptime_laws.device_reads_what_was_sealed_over_uptimes.Goals as goal

pub returns : goal.returns
returns c = λ device profile within seal_floor check_floor seals checks go_on.
    reads-over (stated_rules device) (stated_lawful device) (stated_reads device)
    (stated_silence device) profile (stated_reads_what_passed device profile within) seal_floor
    check_floor seals checks go_on
