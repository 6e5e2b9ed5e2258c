-- `HasFrames` holds for the notes of the transmitter and of the receiver.
use Rattle.std.proofs.Common.{◌≡◌, IfSome, refl}
use Rattle.yasir_ticks.specs.Bursts.{Burst}
use Rattle.line_rules.specs.Rules.{Rules}
use Rattle.frame_ending.specs.LiveBytes.{live_bytes}
use Rattle.link_format.specs.Profile.{Profile}
use Rattle.link_box.specs.Sealing.{Judgement, sealer, sealed_in, judged}
use Rattle.link_box.specs.Sealing.{FullNote as SealFull, note_by as seal_note_by}
use Rattle.link_box.specs.Sealing.Judgement.{sealed_with, unsealed}
use Rattle.link_box.specs.Sealing.FullNote.{sealed_note, unsealed_note}
use Rattle.seal_transmitter.specs.Answers.{brief_seal_note}
use Rattle.link_box.specs.Verdicts.{Verdict, checked}
use Rattle.link_box.specs.Verdicts.Verdict.{passed_with, refused, dropped}
use Rattle.link_box.specs.Checking.{checker, passed_in, brief_note as check_brief}
use Rattle.link_box.specs.Checking.{FullNote as CheckFull, note_by as check_note_by}
use Rattle.link_box.specs.Checking.FullNote.{passed_note, refused_note, dropped_note}
use Rattle.session_audit.specs.FramesOf.{HasFrames, numbered_frames}
use Rattle.session_audit.specs.NotesTold.{sealed_told, passed_told}

module _ (profile : Profile) (rules : Rules) where
  live-sealed : (d : Burst) (j : Judgement)
      → IfSome (sealed_in (seal_note_by rules d j)) (λ f. f.frame ≡ live_bytes rules d)
  live-sealed d (sealed_with number) = refl
  live-sealed d (unsealed why) = tt

  told-sealed : (note : SealFull) → sealed_told (brief_seal_note note) ≡ numbered_frames (sealed_in note)
  told-sealed (sealed_note number start frame) = refl
  told-sealed (unsealed_note start why) = refl

  pub sealer-has : HasFrames (sealer profile rules) rules sealed_in brief_seal_note sealed_told
  sealer-has = record {
    live = λ s d. live-sealed d (judged profile rules s d);
    tells = told-sealed;
  }

  live-passed : (d : Burst) (v : Verdict)
      → IfSome (passed_in (check_note_by rules d v)) (λ f. f.frame ≡ live_bytes rules d)
  live-passed d (passed_with number) = refl
  live-passed d (refused why) = tt
  live-passed d (dropped why) = tt

  told-passed : (note : CheckFull) → passed_told (check_brief note) ≡ numbered_frames (passed_in note)
  told-passed (passed_note number start frame) = refl
  told-passed (refused_note start why) = refl
  told-passed (dropped_note start why) = refl

  pub checker-has : HasFrames (checker profile rules) rules passed_in check_brief passed_told
  checker-has = record {
    live = λ s d. live-passed d (checked profile rules s d);
    tells = told-passed;
  }
