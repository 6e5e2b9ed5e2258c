-- What holds between the numbers in the line of a trial, for both protocols and profiles.
use Rattle.device_model.specs.Stated.StatedDevice.{rtu, dnp}
use Rattle.link_format.proofs.Profiles.{y18-tags, y24-tags}
use Rattle.link_replay.specs.TrialCommand.{trial_link_profile, trial_counts}
use Rattle.command_ends.specs.declared.link.Profile.{Profile, TheVariants.Y18, TheVariants.Y24}
use Rattle.command_ends.specs.declared.link.Proto.{Proto, TheVariants.Rtu, TheVariants.Dnp3}
use Rattle.sequence_journal.specs.declared.numbers.TheConstants.{LIMIT}
use Rattle.std.proofs.Common.{ℕ, ◌^◌, ◌<◌, arith}
use Rattle.trial_session.proofs.Tellings.{stated-tells}
use Rattle.trial_session.specs.{Boxes.trial_setup, Telling.Tells}

pub counts-tell : (proto : Proto) (profile : Profile) (seed count : ℕ) → count < 2 ^ 32
    → Tells (trial_counts proto profile seed count) count
counts-tell Rtu Y18 seed count few =
    stated-tells rtu (trial_link_profile Rtu Y18) tt (y18-tags 1 LIMIT trial_setup) (omega arith)
    (omega arith) seed count (omega (arith, few))
counts-tell Dnp3 Y18 seed count few =
    stated-tells dnp (trial_link_profile Dnp3 Y18) tt (y18-tags 2 LIMIT trial_setup) (omega arith)
    (omega arith) seed count (omega (arith, few))
counts-tell Rtu Y24 seed count few =
    stated-tells rtu (trial_link_profile Rtu Y24) tt (y24-tags 1 LIMIT trial_setup) (omega arith)
    (omega arith) seed count (omega (arith, few))
counts-tell Dnp3 Y24 seed count few =
    stated-tells dnp (trial_link_profile Dnp3 Y24) tt (y24-tags 2 LIMIT trial_setup) (omega arith)
    (omega arith) seed count (omega (arith, few))
