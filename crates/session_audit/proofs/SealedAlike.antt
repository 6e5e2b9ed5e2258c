-- Which frames a transmitter seals doesn't depend on the tags that it makes.
use Rattle.frame_ending.specs.Walk.{Noted, notes_before, walked}
use Rattle.frame_ending.specs.LiveBytes.{has_extra, live_bytes, live_end}
use Rattle.link_format.specs.declared.tag.Mac.{Ghosts as Mac}
use Rattle.line_rules.specs.{Rules.Rules, declared.line_rules.LineRules.Ghosts as LineRules}
use Rattle.link_box.specs.Walking.{frames_of}
use Rattle.link_format.specs.Profile.{Profile, pause_len, profile_of, trailer_len}
use Rattle.link_format.specs.Setup.{Setup}
use Rattle.session_lists.specs.FrameBox.{AnswersFrame, AnswersFrameRun, frame_told}
use Rattle.session_lists.specs.declared.frame_box.FrameStep.{FrameStep}
use Rattle.link_box.proofs.SealCausality.{judge_by, judged-is}
use Rattle.link_box.specs.Sealing.{FullNote, Judgement, SealState, at_floor, judged}
use Rattle.link_box.specs.Sealing.{note_by, sealed, sealed_in, sealer, state_by}
use Rattle.link_box.specs.Sealing.Judgement.{sealed_with, unsealed}
use Rattle.seal_transmitter.specs.Boxed.{seal_walking}
use Rattle.sequence_journal.specs.declared.numbers.TheConstants.{LIMIT}
use Rattle.session_audit.specs.{NoTags.sealed_numbering, ShownFrames.numbering_of}
use Rattle.std.proofs.Common.{◌≡◌, ◌∙◌, ℕ, suc, ◌+◌, ◌==◌, ◌||◌, not, nat_lt, List, [], ◌∷◌, ◌++◌}
use Rattle.std.proofs.Common.{length, refl, ap, sym}
use Rattle.std.specs.List.{filter_map}
use Rattle.yasir_ticks.specs.Bursts.{Burst, bursts, end_of}
use Rattle.yasir_ticks.specs.declared.{TheConstants.T3_5_TICKS, tick.Tick.Tick}

-- two profiles with the same greatest number and trailers of the same length
module _ (p q : Profile) (rules : Rules) (limit : p.limit ≡ q.limit)
    (long : trailer_len p ≡ trailer_len q) where
  judged-alike : (s : SealState) (d : Burst) → judged p rules s d ≡ judged q rules s d
  judged-alike s d =
      judged-is p rules s d
      ∙ (ap (λ (n : ℕ). judge_by (nat_lt d.start s.earliest_start)
      (has_extra rules d || not (rules.is_frame (live_bytes rules d))) (s.floor == n)
      (suc s.floor)) limit
      ∙ sym (judged-is q rules s d))

  state-alike : (s : SealState) (d : Burst) (j : Judgement)
      → state_by p rules s d j ≡ state_by q rules s d j
  state-alike s d (sealed_with number) =
      let state : ℕ → SealState = λ n. record {
        floor = number;
        earliest_start = live_end rules d + pause_len + n + T3_5_TICKS;
      } in
      ap state long
  state-alike s d (unsealed why) = refl

  walked-alike : (s : SealState) (ds : List Burst)
      → walked (sealer p rules) s ds ≡ walked (sealer q rules) s ds
  walked-alike s [] = refl
  walked-alike s (d ∷ ds) =
      let same : judged p rules s d ≡ judged q rules s d = judged-alike s d in
      let note : Judgement → Noted FullNote = λ j. record {
        tick = end_of d + 3;
        note = note_by rules d j;
      } in
      let next : state_by p rules s d (judged p rules s d)
      ≡ state_by q rules s d (judged q rules s d) =
      state-alike s d (judged p rules s d) ∙ ap (λ (j : Judgement). state_by q rules s d j) same in
      ap (λ (n : Noted FullNote). n ∷ walked (sealer p rules) (state_by p rules s d
      (judged p rules s d)) ds) (ap note same)
      ∙ ap (λ (l : List (Noted FullNote)). note (judged q rules s d) ∷ l)
      (ap (λ (a : SealState). walked (sealer p rules) a ds) next
      ∙ walked-alike (state_by q rules s d (judged q rules s d)) ds)

  pub sealed-alike : (floor : ℕ) (line : List Tick)
      → sealed p rules floor line ≡ sealed q rules floor line
  sealed-alike floor line =
      ap (λ (notes : List (Noted FullNote)). filter_map (λ (n : Noted FullNote). sealed_in n.note)
      (notes_before (length line) notes))
      (walked-alike (at_floor floor) (bursts line))

-- ---- what a box lists

module _ {R M U : Type 0} (proto : LineRules R) (macs : Mac M) (blank : Mac U) (word_len : ℕ)
    (sized : macs.TAG ≡ blank.TAG) (setup : Setup) where
  pub listed-alike : (line : List Tick)
      → frames_of (seal_walking proto macs word_len) setup line
      ≡ frames_of (seal_walking proto blank word_len) setup line
  listed-alike line = sealed-alike (profile_of proto macs word_len LIMIT setup)
      (profile_of proto blank word_len LIMIT setup) proto.rules refl
      (ap (λ (n : ℕ). word_len + n) sized) setup.floor line

  pub step-alike : (line : List Tick) (t : Tick) (step : FrameStep) (bytes : List ℕ)
      → AnswersFrame (numbering_of (seal_walking proto blank word_len) setup) line t step bytes
      → AnswersFrame (sealed_numbering proto macs blank word_len setup) line t step bytes
  step-alike line t step bytes answers = record {
    tick_is = answers.tick_is;
    frame_is = listed-alike (line ++ t ∷ [])
        ∙ (answers.frame_is ∙ ap (λ l. l ++ frame_told step.frame bytes) (sym (listed-alike line)));
  }

  pub run-alike : (line run answer : List Tick)
      → AnswersFrameRun (numbering_of (seal_walking proto blank word_len) setup) line run answer
      → AnswersFrameRun (sealed_numbering proto macs blank word_len setup) line run answer
  run-alike line run answer answers = record {
    ticks = answers.ticks;
    long = answers.long;
    frames = listed-alike (line ++ run) ∙ (answers.frames ∙ sym (listed-alike line));
  }
