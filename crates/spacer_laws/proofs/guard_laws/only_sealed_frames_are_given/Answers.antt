use Rattle.device_model.specs.Stated.{stated_rules, stated_reads, stated_silence}
use Rattle.receiver_laws.proofs.{Stated.stated_lawful, Stated.stated_framed}
use Rattle.spacer_laws.proofs.{Guarding.gives-only-sealed, Guards.stated-hears}
use Rattle.spacer_laws.proofs.guard_laws.only_sealed_frames_are_given.Goals as goal

pub returns : goal.returns
returns c = λ device profile within gap cap seal_floor check_floor line link wide.
    gives-only-sealed (stated_rules device) (stated_lawful device) (stated_framed device)
    (stated_reads device) (stated_silence device) profile (stated-hears device profile within) gap
    wide cap seal_floor check_floor line link
