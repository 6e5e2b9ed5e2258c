-- What is on a spaced line, and what a device reads of it.
use Rattle.frame_ending.specs.Laid.{laid}
use Rattle.device_model.specs.{Frames.FrameRead, Hunt.timed, Hunt.hunt, Hunt.hunt_anew}
use Rattle.device_model.specs.{HuntFamily.hunt_family, HuntLaws.IsHunted, RtuReads.is_frame_body}
use Rattle.line_rules.specs.{Rules.Rules, RulesLaws.IsHeaded, RulesLaws.IsFramed}
use Rattle.{line_spacer.specs.Spacing.accepted_of, receiver_laws.proofs.Anew.anew-hunter}
use Rattle.receiver_laws.proofs.{Calm.contiguous-calm, HunterReadings.plain-hunter}
use Rattle.receiver_laws.proofs.{HunterReadings.frame-taken, Hunters.AreTaken, Hunters.IsTaken}
use Rattle.receiver_laws.proofs.{Hunters.hunter-laid, Settled.reads_with, Settled.reads-laid}
use Rattle.receiver_laws.{proofs.Standing.bytes_in-byte_ticks, specs.Hunters.IsHunter}
use Rattle.rtu_frame.specs.{Frame.is_frame, Rules.rtu_rules, Rules.rtu_framed}
use Rattle.spacer_laws.proofs.Accepted.{accepted-apart, all-sent}
use Rattle.spacer_laws.proofs.ReadFrames.{rtu-frames, family-frames, ended-whole}
use Rattle.spacer_laws.proofs.Within.{laid-bursts, apart-spread, bytes-contiguous}
use Rattle.spacer_laws.specs.SpacesOut.{IsSent, AreApart, ReadsFrames, SpacesOut, frames_by}
use Rattle.std.proofs.Common.{◌≡◌, ◌∙◌, ℕ, zero, suc, ◌+◌, ◌≤◌, ◌⊎◌, inl, inr, List, [], ◌∷◌}
use Rattle.std.proofs.Common.{length, map, sym, ap, subst, arith, true, not, ◌&&◌}
use Rattle.yasir_ticks.specs.{Bursts.Burst, Bursts.end_of, Ticks.bytes_in}
use Rattle.yasir_ticks.specs.declared.tick.Tick.{Tick, TheVariants.Byte}

-- For a spacer that hears only frames of the protocol, and a device behind it that reads each burst
-- that is laid of these once it has ended.
module _ (rules : Rules) (framed : IsFramed rules) (heard : List Tick → List FrameRead)
    (sound : ReadsFrames rules heard) (reads : List Tick → List FrameRead) (ends gap : ℕ)
    (wide : 4 ≤ gap)
    (laid_read : (m : ℕ) (ds : List Burst) → AreApart rules gap 0 ds
    → reads (laid m ds) ≡ frames_by ends m ds) where
  pub spaces-out : (cap : ℕ) (line : List Tick) → SpacesOut rules heard reads ends gap cap line
  spaces-out cap line =
      let apart = accepted-apart rules heard sound gap cap line in
      let ds : List Burst = accepted_of heard gap cap line in
      record {
        apart = apart;
        bursts_are = laid-bursts gap (omega arith) rules framed 4 (length line) ds
            (omega arith) wide
            apart;
        read = laid_read (length line) ds apart;
      }

-- ---- Modbus RTU

module _ (cut pause gap : ℕ) (some : 2 ≤ cut) (near : cut ≤ gap) (long : 2 ≤ pause) where
  rtu-whole : (d : Burst) → IsSent rtu_rules d → is_frame_body pause d.body ≡ true
  rtu-whole d sent =
      let body : List Tick = map (λ b. Byte b) sent.frame in
      let byte = rtu_framed.some_byte sent.frame sent.framed in
      ap (λ x. is_frame_body pause x) sent.is
      ∙ (ap (λ v. not v && is_frame (bytes_in body))
      (contiguous-calm pause body long (bytes-contiguous 2 sent.frame (omega arith) byte))
      ∙ (ap is_frame (bytes_in-byte_ticks sent.frame) ∙ sent.framed))

  pub rtu-laid : (m : ℕ) (ds : List Burst) → AreApart rtu_rules gap 0 ds
      → reads_with cut pause (laid m ds) ≡ frames_by cut m ds
  rtu-laid m ds apart =
      reads-laid cut pause m ds
      (apart-spread gap (omega arith) rtu_rules rtu_framed cut 0 0 ds (omega arith) near
      (omega arith) apart)
      ∙ ended-whole cut m (λ d. is_frame_body pause d.body) ds
      (all-sent (λ d. is_frame_body pause d.body ≡ true) rtu_rules gap 0 ds rtu-whole apart)

  pub rtu-spaces_out : 4 ≤ gap → (cap : ℕ) (line : List Tick)
      → SpacesOut rtu_rules (reads_with cut pause) (reads_with cut pause) cut gap cap line
  rtu-spaces_out wide =
      spaces-out rtu_rules rtu_framed (reads_with cut pause) (rtu-frames cut pause)
      (reads_with cut pause) cut gap wide rtu-laid

-- ---- devices that hunt

module _ (first second : ℕ) (rules : Rules) (headed : IsHeaded rules) (framed : IsFramed rules)
    (hunted : IsHunted first second rules) (gap : ℕ) (wide : 4 ≤ gap) where
  hunt-whole : (d : Burst) → IsSent rules d → rules.is_frame (bytes_in d.body) ≡ true
  hunt-whole d sent =
      ap (λ x. rules.is_frame (bytes_in x)) sent.is
      ∙ (ap rules.is_frame (bytes_in-byte_ticks sent.frame) ∙ sent.framed)

  all-taken : (n : ℕ) (ds : List Burst) → AreApart rules gap n ds → AreTaken first second rules ds
  all-taken n [] apart = tt
  all-taken n (d ∷ ds) apart =
      let sent = apart.1 in
      let P : List ℕ → Type 0 = λ x. IsTaken first second rules x in (
        subst P (sym (ap bytes_in sent.is ∙ bytes_in-byte_ticks sent.frame))
            (frame-taken first second rules headed framed hunted sent.frame sent.framed),
        all-taken (end_of d + gap) ds apart.2,
      )

  hunter-spaced : (read : ℕ → List Tick → List FrameRead) → IsHunter first second rules read
      → (m : ℕ) (ds : List Burst) → AreApart rules gap 0 ds
      → read 0 (laid m ds) ≡ frames_by 0 m ds
  hunter-spaced read hunter m ds apart =
      hunter-laid first second rules headed framed hunted read hunter m ds
      (apart-spread gap (omega arith) rules framed 2 0 0 ds (omega arith) (omega arith)
      (omega arith)
      apart)
      (all-taken 0 ds apart)
      ∙ ended-whole 0 m (λ d. rules.is_frame (bytes_in d.body)) ds
      (all-sent (λ d. rules.is_frame (bytes_in d.body) ≡ true) rules gap 0 ds hunt-whole apart)

  pub family-spaced : (cut : ℕ) → (cut ≡ 0) ⊎ (2 ≤ cut) → (m : ℕ) (ds : List Burst)
      → AreApart rules gap 0 ds
      → hunt_family first second rules cut (laid m ds) ≡ frames_by 0 m ds
  family-spaced zero member m ds apart =
      hunter-spaced (λ n line. hunt first second rules 0 (timed n line))
      (plain-hunter first second rules) m ds apart
  family-spaced (suc cut) (inl none) m ds apart = absurd (omega arith)
  family-spaced (suc cut) (inr some) m ds apart =
      hunter-spaced (λ n line. hunt_anew first second rules (suc cut) n line)
      (anew-hunter (suc cut) some first second rules) m ds apart

  pub family-spaces_out : (cut : ℕ) → (cut ≡ 0) ⊎ (2 ≤ cut) → (cap : ℕ) (line : List Tick)
      → SpacesOut rules (hunt_family first second rules cut) (hunt_family first second rules cut) 0
      gap cap line
  family-spaces_out cut member =
      spaces-out rules framed (hunt_family first second rules cut)
      (family-frames first second rules cut) (hunt_family first second rules cut) 0 gap wide
      (family-spaced cut member)
