-- Draws and alterations of a link, as small examples.
use Rattle.std.proofs.Common.{◌≡◌, [], ◌∷◌, refl}
use Rattle.yasir_ticks.specs.declared.tick.Tick.TheVariants.{Silent, Byte}
use Rattle.trial_session.specs.Alterations.{altered, alteration_of}
use Rattle.trial_session.specs.Draws.{draws, draw_state_after, nth_drawn}
use Rattle.trial_session.specs.declared.alteration.Alteration.TheVariants.{Nothing, Change, Lose}
use Rattle.trial_session.specs.declared.alteration.Alteration.TheVariants.{CutOff}

first-draw : nth_drawn 1 0 ≡ 335903614
unfolding draw_state_after
first-draw = refl

-- the numbers that scripts/trial_model.py draws
more-draws : draws 3 0 ≡ 335903614 ∷ 436792849 ∷ 2599843874 ∷ []
unfolding draws
more-draws = refl

changed-byte : altered (Change 1 0x0F) (Byte 1 ∷ Byte 0xF0 ∷ Silent ∷ []) ≡ Byte 1 ∷ Byte 0xFF ∷
    Silent ∷ []
changed-byte = refl

changed-silence : altered (Change 2 0x0F) (Byte 1 ∷ Byte 2 ∷ Silent ∷ []) ≡ Byte 1 ∷ Byte 2 ∷ Byte
    0x0F ∷ []
changed-silence = refl

lost : altered Lose (Byte 1 ∷ Silent ∷ Byte 2 ∷ []) ≡ Silent ∷ Silent ∷ Silent ∷ []
lost = refl

cut-short : altered (CutOff 1) (Byte 1 ∷ Byte 2 ∷ Byte 3 ∷ []) ≡ Byte 1 ∷ Silent ∷ Silent ∷ []
cut-short = refl

half-of-the-kinds : alteration_of 3 5 7 ≡ Nothing
half-of-the-kinds = refl
