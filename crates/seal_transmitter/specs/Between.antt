-- A transmitter in the middle of a step: the value that cuts the line has taken the tick, and
-- everything else is as before.
use Rattle.std.specs.Prelude.{◌≡◌, ℕ, List, [], ◌∷◌, ◌++◌, Option, Some, None, IfSome}
use Rattle.yasir_ticks.specs.declared.tick.Tick.{Tick}
use Rattle.line_rules.specs.Rules.{Rules}
use Rattle.line_rules.specs.declared.line_rules.LineRules.{Ghosts as LineRules}
use Rattle.frame_ending.specs.declared.cut.Cut.{Cut}
use Rattle.frame_ending.specs.Cuts.{cut_of}
use Rattle.frame_ending.specs.SoFar.{last_burst}
use Rattle.frame_ending.specs.Stands.{CutStandsFor}
use Rattle.link_format.specs.declared.tag.Mac.{Ghosts as Mac}
use Rattle.link_format.specs.Tag.{direction_number}
use Rattle.link_format.specs.Profile.{Profile, profile_of}
use Rattle.link_format.specs.Setup.{Setup}
use Rattle.link_format.specs.Trailers.{bytes_unsent}
use Rattle.sequence_journal.specs.declared.numbers.TheConstants.{LIMIT}
use Rattle.link_box.specs.Sealing.{Judgement, judged}
use Rattle.link_box.specs.Sealing.Judgement.{sealed_with, unsealed}
use Rattle.seal_transmitter.specs.Stands.{SealerWalks}
use Rattle.link_box.specs.declared.seal_note.SealNote.{SealNote}
use Rattle.link_box.specs.declared.seal_note.SealNote.TheVariants.{Sealed, Unsealed}
use Rattle.frame_ending.specs.declared.box_step.BoxStep.{BoxStep}
use Rattle.link_box.specs.declared.seal_note.UnsealedWhy.{UnsealedWhy}
use Rattle.seal_transmitter.specs.declared.sealer.Sealer.{Sealer}

-- Holds if the last burst of the line, if there is one, is judged so. The last number used is
-- `last`, and a burst that starts before tick `earliest` is early.
abbrev pub IsJudged : Profile → Rules → ℕ → ℕ → List Tick → Judgement → Type 0
IsJudged profile rules last earliest line j =
    IfSome (last_burst line)
    (λ d. judged profile rules (record { floor = last; earliest_start = earliest }) d ≡ j)

module _ {R M : Type 0} (proto : LineRules R) (macs : Mac M) {B : ℕ} (value : Sealer R M B)
    (last : ℕ)
    (setup : Setup) (line : List Tick) where
  -- Holds if the transmitter has taken `line`, the last number that it used is `last`, and then
  -- only the value that cuts the line has taken the tick `t`, and has said that it is `cut`.
  pub record SealerIsBetween (t : Tick) (cut : Cut) : Type 0 where
    pub direction_is : direction_number value.direction ≡ setup.direction
    pub cuts : CutStandsFor proto value.cut (line ++ t ∷ [])
    pub is_cut : cut_of proto.rules line t ≡ cut
    pub walks : SealerWalks proto macs B last value.earliest_start (bytes_unsent value.trailer) value.mac
        setup line

  -- Holds if the last burst of the line is judged so, by the number `last` and the value's earliest
  -- start.
  abbrev pub Judges : Judgement → Type 0
  Judges j = IsJudged (profile_of proto macs B LIMIT setup) proto.rules last value.earliest_start
      line j

-- the judgement of a burst that isn't sealed for this reason, or else is sealed with this number
abbrev pub judgement_of : Option UnsealedWhy → ℕ → Judgement
judgement_of None number = sealed_with number
judgement_of (Some why) number = unsealed why

-- a step that returns this tick of the link, and no note
abbrev pub noteless : Tick → BoxStep SealNote
noteless t = record { tick = t; note = None }

-- Holds if the note is that of a burst sealed with this number.
abbrev pub IsSealedNote : ℕ → Option SealNote → Type 0
IsSealedNote number note = (start : ℕ) × (len : ℕ) × (note ≡ Some (Sealed number start len))

-- Holds if the note is that of a burst that isn't sealed, for this reason.
abbrev pub IsUnsealedNote : UnsealedWhy → Option SealNote → Type 0
IsUnsealedNote why note = (start : ℕ) × (note ≡ Some (Unsealed start why))
