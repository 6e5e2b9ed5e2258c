-- The law on given lines for the devices of each protocol.
use Rattle.frame_ending.proofs.Spread.{AreSpread, bursts-spread}
use Rattle.frame_ending.specs.{Laid.later}
use Rattle.device_model.specs.{Frames.FrameRead, Hunt.timed, Hunt.hunt, Hunt.hunt_anew}
use Rattle.device_model.specs.{HuntFamily.hunt_family, HuntLaws.IsHunted, RtuReads.is_frame_body}
use Rattle.device_model.specs.{DnpHunted.dnp_hunted}
use Rattle.device_model.specs.Stated.{StatedDevice, stated_rules, stated_reads, IsStatedWithin}
use Rattle.device_model.specs.Stated.StatedDevice.{rtu, dnp, rtu_member, dnp_member}
use Rattle.dnp_link_frame.specs.{Rules.dnp_rules, RulesLaws.dnp_lawful, RulesLaws.dnp_headed}
use Rattle.dnp_link_frame.specs.RulesLaws.{dnp_framed, dnp_spoiling}
use Rattle.line_rules.specs.{Rules.Rules, RulesLaws.IsLawful, RulesLaws.IsHeaded}
use Rattle.line_rules.specs.{RulesLaws.IsFramed, Spoiling.IsSpoiling}
use Rattle.link_format.specs.Profile.{Profile, delay}
use Rattle.link_box.proofs.Apart.{emissions-spread}
use Rattle.link_box.specs.Checking.{at_floor}
use Rattle.receiver_laws.proofs.Anew.{anew-hunter, anew_reads_what_passed}
use Rattle.receiver_laws.proofs.HunterReadings.{plain-hunter, emissions-taken}
use Rattle.receiver_laws.proofs.{HunterReadings.hunt_reads_what_passed, Hunters.hunter-laid}
use Rattle.receiver_laws.proofs.Hunters.{AreTaken}
use Rattle.receiver_laws.proofs.{RtuReadings.rtu_reads_what_passed, Settled.reads_with}
use Rattle.receiver_laws.{proofs.Settled.reads-laid, specs.Hunters.IsHunter}
use Rattle.receiver_laws.specs.{Accounted.IsSubsequence, Reading.ReadsWhatPassed}
use Rattle.receiver_laws.specs.Accounted.{IsSubsequence.none, IsSubsequence.skip, IsSubsequence.keep}
use Rattle.rtu_frame.specs.Rules.{rtu_rules, rtu_lawful}
use Rattle.std.proofs.Common.{◌≡◌, ℕ, zero, suc, ◌≤◌, ◌⊎◌, inl, inr, List, map, arith, refl}
use Rattle.yasir_ticks.specs.{Bursts.Burst, Bursts.bursts, Ticks.bytes_in, declared.tick.Tick.Tick}
use Rattle.two_wire.specs.Given.{GivesSome, ReadsSealed}
use Rattle.two_wire.proofs.Giving.{given-sealed, later-some-spread}

pub rtu-given : (cut pause : ℕ) (profile : Profile) → 2 ≤ cut → cut ≤ delay profile → 2 ≤ pause
    → (seal_floor check_floor late : ℕ) (line link given : List Tick)
    → GivesSome profile rtu_rules check_floor late link given
    → ReadsSealed rtu_rules (reads_with cut pause) profile seal_floor check_floor line link given
rtu-given cut pause profile some near long =
    given-sealed rtu_rules rtu_lawful (reads_with cut pause) cut (λ x. is_frame_body pause x) profile
    (λ ds. AreSpread cut 0 ds)
    (λ m es spread. reads-laid cut pause m es spread)
    (λ late xs ys is spread. later-some-spread cut late is spread)
    (λ floor link. emissions-spread profile rtu_rules rtu_lawful cut some near (at_floor floor) 0 0
    (bursts link) (bursts-spread link) (omega arith))
    (λ floor link. rtu_reads_what_passed profile cut pause some near long floor link)

module _ (first second : ℕ) (rules : Rules) (lawful : IsLawful rules) (headed : IsHeaded rules)
    (framed : IsFramed rules) (spoiling : IsSpoiling rules) (hunted : IsHunted first second rules)
    (profile : Profile) where
  abbrev Taken : List Burst → Type 0
  Taken ds = AreTaken first second rules ds

  some-taken : (late : ℕ) {xs ys : List Burst} → IsSubsequence xs ys → Taken ys
      → Taken (map (later late) xs)
  some-taken late none taken = tt
  some-taken late (skip is) taken = some-taken late is taken.1
  some-taken late (keep is) taken = (taken.0, some-taken late is taken.1)

  hunter-given : (read : ℕ → List Tick → List FrameRead) → IsHunter first second rules read
      → ((floor : ℕ) (link : List Tick) → ReadsWhatPassed rules (read 0) 0 profile floor link)
      → (seal_floor check_floor late : ℕ) (line link given : List Tick)
      → GivesSome profile rules check_floor late link given
      → ReadsSealed rules (read 0) profile seal_floor check_floor line link given
  hunter-given read hunter passes =
      let wide : 2 ≤ delay profile = omega arith in
      given-sealed rules lawful (read 0) 0 (λ x. rules.is_frame (bytes_in x)) profile
      (λ ds. AreSpread 2 0 ds × Taken ds)
      (λ m es fit. hunter-laid first second rules headed framed hunted read hunter m es fit.0 fit.1)
      (λ late xs ys is fit. (later-some-spread 2 late is fit.0, some-taken late is fit.1))
      (λ floor link. (
        emissions-spread profile rules lawful 2 (omega arith) wide (at_floor floor) 0 0
            (bursts link) (bursts-spread link) (omega arith),
        emissions-taken first second rules headed framed hunted profile lawful (at_floor floor) 0
            (bursts link) (bursts-spread link),
      ))
      passes

  pub family-given : (cut : ℕ) → (cut ≡ 0) ⊎ (2 ≤ cut)
      → (seal_floor check_floor late : ℕ) (line link given : List Tick)
      → GivesSome profile rules check_floor late link given
      → ReadsSealed rules (hunt_family first second rules cut) profile seal_floor check_floor line
      link given
  family-given zero member =
      hunter-given (λ n line. hunt first second rules 0 (timed n line))
      (plain-hunter first second rules)
      (λ floor link. hunt_reads_what_passed first second rules headed framed hunted profile lawful
      spoiling floor link)
  family-given (suc cut) (inl never) = absurd (omega arith)
  family-given (suc cut) (inr wide) =
      hunter-given (λ n line. hunt_anew first second rules (suc cut) n line)
      (anew-hunter (suc cut) wide first second rules)
      (λ floor link. anew_reads_what_passed (suc cut) wide first second rules headed framed hunted
      lawful spoiling profile floor link)

pub stated-given : (device : StatedDevice) (profile : Profile)
    → IsStatedWithin (delay profile) device
    → (seal_floor check_floor late : ℕ) (line link given : List Tick)
    → GivesSome profile (stated_rules device) check_floor late link given
    → ReadsSealed (stated_rules device) (stated_reads device) profile seal_floor check_floor line
    link given
stated-given rtu profile any = rtu-given 4 2 profile (omega arith) (omega arith) (omega arith)
stated-given dnp profile any =
    family-given 0x05 0x64 dnp_rules dnp_lawful dnp_headed dnp_framed dnp_spoiling dnp_hunted profile
    0 (inl refl)
stated-given (rtu_member cut gap) profile member =
    rtu-given cut (suc gap) profile member.0 member.1 (omega arith)
stated-given (dnp_member cut) profile member =
    family-given 0x05 0x64 dnp_rules dnp_lawful dnp_headed dnp_framed dnp_spoiling dnp_hunted profile
    cut member
