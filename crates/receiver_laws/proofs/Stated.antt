-- Each stated device behind the receiver reads only what passed, the rules of its protocol are lawful,
-- and each stated profile fits them.
use Rattle.device_model.specs.Stated.{StatedDevice, stated_rules, stated_reads, stated_silence}
use Rattle.device_model.specs.Stated.{stated_lack, IsStatedWithin}
use Rattle.device_model.specs.Stated.StatedDevice.{rtu, dnp, rtu_member, dnp_member}
use Rattle.dnp_link_frame.specs.RulesLaws.{dnp_lawful, dnp_headed, dnp_framed}
use Rattle.line_rules.specs.Rules.{Rules}
use Rattle.line_rules.specs.RulesLaws.{IsLawful, IsHeaded, IsFramed}
use Rattle.link_format.proofs.Profiles.{y18-tags, y24-tags}
use Rattle.link_format.specs.{Profile.Profile, Profile.delay, Setup.Setup}
use Rattle.link_box.specs.Timely.{IsTimely}
use Rattle.receiver_laws.proofs.AllLeft.{reads-all}
use Rattle.receiver_laws.proofs.DnpReadings.{dnp_reads_what_passed, dnp_family_reads_what_passed}
use Rattle.receiver_laws.proofs.RtuReadings.{rtu_reads_what_passed}
use Rattle.receiver_laws.specs.{AllLeft.ReadsAllThatPassed, Recovery.LackAtMost}
use Rattle.receiver_laws.specs.Fitting.{IsFit, StatedProfile, stated_profile}
use Rattle.receiver_laws.specs.Fitting.StatedProfile.{of_y18, of_y24}
use Rattle.receiver_laws.specs.Reading.{ReadsWhatPassed}
use Rattle.rtu_frame.specs.Rules.{rtu_lawful, rtu_headed, rtu_framed}
use Rattle.std.proofs.Common.{ℕ, suc, ◌+◌, ◌≤◌, List, arith, rules}
use Rattle.yasir_ticks.specs.{Ticks.AreTicks, declared.tick.Tick.Tick}

pub stated_lawful : (device : StatedDevice) → IsLawful (stated_rules device)
stated_lawful rtu = rtu_lawful
stated_lawful dnp = dnp_lawful
stated_lawful (rtu_member cut gap) = rtu_lawful
stated_lawful (dnp_member cut) = dnp_lawful

pub stated_headed : (device : StatedDevice) → IsHeaded (stated_rules device)
stated_headed rtu = rtu_headed
stated_headed dnp = dnp_headed
stated_headed (rtu_member cut gap) = rtu_headed
stated_headed (dnp_member cut) = dnp_headed

pub stated_reads_what_passed : (device : StatedDevice) (profile : Profile)
    → IsStatedWithin (delay profile) device → (floor : ℕ) (link : List Tick)
    → ReadsWhatPassed (stated_rules device) (stated_reads device) (stated_silence device) profile
    floor link
stated_reads_what_passed rtu profile any floor link =
    rtu_reads_what_passed profile 4 2 (omega arith) (omega arith) (omega arith) floor link
stated_reads_what_passed dnp profile any floor link = dnp_reads_what_passed profile floor link
stated_reads_what_passed (rtu_member cut gap) profile member floor link =
    rtu_reads_what_passed profile cut (suc gap) member.0 member.1 (omega arith) floor
    link
stated_reads_what_passed (dnp_member cut) profile member floor link =
    dnp_family_reads_what_passed cut member profile floor link

pub stated_framed : (device : StatedDevice) → IsFramed (stated_rules device)
stated_framed rtu = rtu_framed
stated_framed dnp = dnp_framed
stated_framed (rtu_member cut gap) = rtu_framed
stated_framed (dnp_member cut) = dnp_framed

-- Both profiles meet what the laws ask of a profile.
pub stated_fit : (of : Rules) → IsHeaded of → (which : StatedProfile) (label limit : ℕ)
    (setup : Setup) → IsFit (stated_profile which label limit setup) of
stated_fit of headed of_y18 label limit setup =
    let short = headed.short in
    record {
      tags = y18-tags label limit setup;
      word = omega arith;
      timely = record { in_time = omega arith };
    }
stated_fit of headed of_y24 label limit setup =
    let short = headed.short in
    record {
      tags = y24-tags label limit setup;
      word = omega arith;
      timely = record { in_time = omega arith };
    }

pub stated_lacks : (device : StatedDevice) → LackAtMost (stated_rules device) (stated_lack device)
stated_lacks rtu = search rules
stated_lacks dnp = search rules
stated_lacks (rtu_member cut gap) = search rules
stated_lacks (dnp_member cut) = search rules

-- A stated device reads all frames that passed once all has left.
pub stated_reads_all : (device : StatedDevice) (profile : Profile)
    → IsStatedWithin (delay profile) device → IsTimely profile (stated_rules device)
    → (floor : ℕ) (link : List Tick) → AreTicks link
    → (rest more : ℕ) → delay profile + stated_lack device ≤ rest → stated_silence device ≤ more
    → ReadsAllThatPassed (stated_rules device) (stated_reads device) profile floor link rest more
stated_reads_all device profile within timely floor link ticks rest more long enough =
    reads-all profile (stated_rules device) (stated_lawful device) (stated_headed device) timely
    floor link (stated_lack device) (stated_lacks device) ticks rest long (stated_reads device)
    (stated_silence device) (stated_reads_what_passed device profile within floor link) more enough
