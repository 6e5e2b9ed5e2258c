-- A DNP3 device behind the receiver reads only what passed.
use Rattle.device_model.specs.{DnpHunted.dnp_hunted, DnpReads.dnp_reads}
use Rattle.{device_model.specs.HuntFamily.dnp_family_reads, dnp_link_frame.specs.Rules.dnp_rules}
use Rattle.dnp_link_frame.specs.RulesLaws.{dnp_lawful, dnp_headed, dnp_framed, dnp_spoiling}
use Rattle.link_format.specs.Profile.{Profile}
use Rattle.receiver_laws.proofs.{Anew.anew_reads_what_passed, HunterReadings.hunt_reads_what_passed}
use Rattle.receiver_laws.specs.Reading.{ReadsWhatPassed}
use Rattle.std.proofs.Common.{◌≡◌, ◌≤◌, ◌⊎◌, inl, inr, ℕ, zero, suc, List, arith}
use Rattle.yasir_ticks.specs.declared.tick.Tick.{Tick}

pub dnp_reads_what_passed : (profile : Profile) (floor : ℕ) (link : List Tick)
    → ReadsWhatPassed dnp_rules dnp_reads 0 profile floor link
dnp_reads_what_passed profile floor link =
    hunt_reads_what_passed 0x05 0x64 dnp_rules dnp_headed dnp_framed dnp_hunted profile dnp_lawful
    dnp_spoiling floor link

pub dnp_family_reads_what_passed : (cut : ℕ) → (cut ≡ 0) ⊎ (2 ≤ cut)
    → (profile : Profile) (floor : ℕ) (link : List Tick)
    → ReadsWhatPassed dnp_rules (dnp_family_reads cut) 0 profile floor link
dnp_family_reads_what_passed zero member profile floor link =
    dnp_reads_what_passed profile floor link
dnp_family_reads_what_passed (suc cut) (inl none) profile floor link = absurd (omega arith)
dnp_family_reads_what_passed (suc cut) (inr wide) profile floor link =
    anew_reads_what_passed (suc cut) wide 0x05 0x64 dnp_rules dnp_headed dnp_framed dnp_hunted
    dnp_lawful dnp_spoiling profile floor link
