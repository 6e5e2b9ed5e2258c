use Rattle.device_model.specs.Stated.{stated_rules, stated_reads, stated_silence}
use Rattle.receiver_laws.proofs.{Stated.stated_lawful, Stated.stated_framed}
use Rattle.spacer_laws.proofs.{GivingUntouched.gives-all, Guards.stated-hears}
use Rattle.spacer_laws.proofs.guard_laws.untouched_link_gives_all.Goals as goal

pub returns : goal.returns
returns c = λ device profile within tags some floor behind line more rest most gap cap is fits.
    gives-all profile tags some (stated_rules device) (stated_lawful device) (stated_framed device)
    (stated_reads device) (stated_silence device) (stated-hears device profile within) floor behind
    line more is most gap cap fits rest
