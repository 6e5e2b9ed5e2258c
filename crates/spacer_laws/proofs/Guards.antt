-- The spacers of each protocol, behind the receiver.
use Rattle.frame_ending.{proofs.Spread.bursts-spread, specs.Walk.emitted_by}
use Rattle.device_model.specs.{Frames.FrameRead, Hunt.timed, Hunt.hunt, Hunt.hunt_anew}
use Rattle.device_model.specs.{HuntFamily.hunt_family, HuntLaws.IsHunted, RtuReads.is_frame_body}
use Rattle.device_model.specs.{DnpHunted.dnp_hunted, Stated.stated_silence}
use Rattle.device_model.specs.Stated.{StatedDevice, stated_rules, stated_reads, IsStatedWithin}
use Rattle.device_model.specs.Stated.StatedDevice.{rtu, dnp, rtu_member, dnp_member}
use Rattle.dnp_link_frame.specs.{Rules.dnp_rules, RulesLaws.dnp_lawful, RulesLaws.dnp_headed}
use Rattle.dnp_link_frame.specs.RulesLaws.{dnp_framed, dnp_spoiling}
use Rattle.line_rules.specs.{Rules.Rules, RulesLaws.IsLawful, RulesLaws.IsHeaded}
use Rattle.line_rules.specs.{RulesLaws.IsFramed, Spoiling.IsSpoiling}
use Rattle.link_format.specs.Profile.{Profile, delay}
use Rattle.link_box.specs.Checking.{checker, at_floor}
use Rattle.receiver_laws.proofs.Anew.{anew-hunter, anew_reads_what_passed}
use Rattle.receiver_laws.proofs.HunterReadings.{plain-hunter, emissions-taken, wrong-frame}
use Rattle.receiver_laws.proofs.{HunterReadings.hunt_reads_what_passed, Hunters.hunter-laid}
use Rattle.receiver_laws.proofs.RtuReadings.{rtu_reads_what_passed, wrong-frame as rtu-wrong}
use Rattle.receiver_laws.proofs.Settled.{reads_with, reads-laid}
use Rattle.receiver_laws.specs.{Hunters.IsHunter, Reading.ReadsWhatPassed}
use Rattle.rtu_frame.specs.Rules.{rtu_rules}
use Rattle.{rtu_frame.specs.Rules.rtu_lawful, spacer_laws.proofs.Guarding.HearsEmissions}
use Rattle.spacer_laws.proofs.{Guarding.emissions-apart, ReadFrames.rtu-frames}
use Rattle.spacer_laws.{proofs.ReadFrames.family-frames, specs.SpacesOut.ReadsFrames}
use Rattle.std.proofs.Common.{◌≡◌, ℕ, zero, suc, ◌≤◌, ◌⊎◌, inl, inr, List, arith, refl}
use Rattle.yasir_ticks.specs.{Bursts.bursts, Ticks.bytes_in, declared.tick.Tick.Tick}

pub rtu-hears : (cut pause : ℕ) (profile : Profile) → 2 ≤ cut → cut ≤ delay profile → 2 ≤ pause
    → HearsEmissions rtu_rules (reads_with cut pause) cut profile
rtu-hears cut pause profile some near long = record {
  sound = rtu-frames cut pause;
  passes = rtu_reads_what_passed profile cut pause some near long;
  whole = λ d. is_frame_body pause d.body;
  refuses = rtu-wrong profile cut pause some near long;
  emissions = λ floor link m. reads-laid cut pause m
      (emitted_by (checker profile rtu_rules) (at_floor floor) (bursts link))
      (emissions-apart cut profile rtu_rules rtu_lawful some near floor link);
}

module _ (first second : ℕ) (rules : Rules) (lawful : IsLawful rules) (headed : IsHeaded rules)
    (framed : IsFramed rules) (spoiling : IsSpoiling rules) (hunted : IsHunted first second rules)
    (profile : Profile) where
  hunter-hears : (read : ℕ → List Tick → List FrameRead) → IsHunter first second rules read
      → ReadsFrames rules (read 0)
      → ((floor : ℕ) (link : List Tick) → ReadsWhatPassed rules (read 0) 0 profile floor link)
      → HearsEmissions rules (read 0) 0 profile
  hunter-hears read hunter sound passes =
      let late : 2 ≤ delay profile = omega arith in
      record {
        sound = sound;
        passes = passes;
        whole = λ d. rules.is_frame (bytes_in d.body);
        refuses = wrong-frame first second rules headed framed hunted profile lawful spoiling;
        emissions = λ floor link m.
            hunter-laid first second rules headed framed hunted read hunter m
            (emitted_by (checker profile rules) (at_floor floor) (bursts link))
            (emissions-apart 2 profile rules lawful (omega arith) late floor link)
            (emissions-taken first second rules headed framed hunted profile lawful (at_floor floor)
            0 (bursts link) (bursts-spread link));
      }

  pub family-hears : (cut : ℕ) → (cut ≡ 0) ⊎ (2 ≤ cut)
      → HearsEmissions rules (hunt_family first second rules cut) 0 profile
  family-hears zero member =
      hunter-hears (λ n line. hunt first second rules 0 (timed n line))
      (plain-hunter first second rules) (family-frames first second rules 0)
      (λ floor link. hunt_reads_what_passed first second rules headed framed hunted profile lawful
      spoiling floor link)
  family-hears (suc cut) (inl none) = absurd (omega arith)
  family-hears (suc cut) (inr some) =
      hunter-hears (λ n line. hunt_anew first second rules (suc cut) n line)
      (anew-hunter (suc cut) some first second rules) (family-frames first second rules (suc cut))
      (λ floor link. anew_reads_what_passed (suc cut) some first second rules headed framed hunted
      lawful spoiling profile floor link)

-- ---- the stated devices

pub stated-hears : (device : StatedDevice) (profile : Profile)
    → IsStatedWithin (delay profile) device
    → HearsEmissions (stated_rules device) (stated_reads device) (stated_silence device) profile
stated-hears rtu profile any =
    rtu-hears 4 2 profile (omega arith) (omega arith) (omega arith)
stated-hears dnp profile any =
    family-hears 0x05 0x64 dnp_rules dnp_lawful dnp_headed dnp_framed dnp_spoiling dnp_hunted
    profile 0 (inl refl)
stated-hears (rtu_member cut pause) profile member =
    rtu-hears cut (suc pause) profile member.0 member.1 (omega arith)
stated-hears (dnp_member cut) profile member =
    family-hears 0x05 0x64 dnp_rules dnp_lawful dnp_headed dnp_framed dnp_spoiling dnp_hunted
    profile cut member
