-- The sealed frames: their numbers rise by one from the floor, and when a line goes on, its sealed
-- frames begin with those of the line so far.
use Rattle.frame_ending.proofs.Spread.{AreSpread, bursts-spread}
use Rattle.frame_ending.proofs.Walks.{before-early, before-late, none_before}
use Rattle.frame_ending.specs.{Longer.Begins, Walk.Noted, Walk.noted, Walk.walked, Walk.notes_before}
use Rattle.frame_ending.specs.LiveBytes.{live_bytes, has_extra}
use Rattle.line_rules.specs.{Rules.Rules, RulesLaws.IsLawful}
use Rattle.link_format.specs.NumberedFrame.{NumberedFrame, AreNumberedFrom}
use Rattle.link_format.specs.Profile.{Profile}
use Rattle.link_box.proofs.SealCausality.{judge_by, judged-is, sealer-causal, sealer-extends}
use Rattle.link_box.specs.Sealing.{SealState, FullNote, Judgement, judged, state_by, note_by}
use Rattle.link_box.specs.Sealing.{sealer, at_floor, sealed_in, seal_notes, sealed}
use Rattle.link_box.specs.Sealing.Judgement.{sealed_with, unsealed}
use Rattle.std.proofs.Common.{◌≡◌, ◌∙◌, ◌==◌, ℕ, suc, ◌+◌, ◌≤◌, nat_lt, Bool, true, false, not}
use Rattle.std.proofs.Common.{◌||◌, List, [], ◌∷◌, ◌++◌, length, map, refl, sym, ap, subst, arith}
use Rattle.std.proofs.{Common.⊎_elim, lemmas.Bool.cases_lt, lemmas.List.Elements.filter_map-append}
use Rattle.std.specs.List.{filter_map, range_with_len}
use Rattle.yasir_ticks.specs.Bursts.{Burst, bursts, end_of}
use Rattle.yasir_ticks.specs.declared.{TheConstants.T3_5_TICKS, tick.Tick.Tick}

sealed-number : (early wrong last : Bool) (number n : ℕ)
    → judge_by early wrong last number ≡ sealed_with n → n ≡ number
sealed-number true wrong last number n is = cc
sealed-number false true last number n is = cc
sealed-number false false true number n is = cc
sealed-number false false false number n is = cc

-- the sealed frames of these notes
abbrev pub frames_in : List (Noted FullNote) → List NumberedFrame
frames_in notes = filter_map (λ n. sealed_in n.note) notes

module _ (profile : Profile) (rules : Rules) (lawful : IsLawful rules) where
  judged-number : (s : SealState) (d : Burst) (n : ℕ) → judged profile rules s d ≡ sealed_with n
      → n ≡ suc s.floor
  judged-number s d n is =
      sealed-number (nat_lt d.start s.earliest_start)
      (has_extra rules d || not (rules.is_frame (live_bytes rules d)))
      (s.floor == profile.limit) (suc s.floor) n
      (sym (judged-is profile rules s d) ∙ is)

  one_more : (s : SealState) (d : Burst) (tick : ℕ) (more : List (Noted FullNote)) (j : Judgement)
      → ((n : ℕ) → j ≡ sealed_with n → n ≡ suc s.floor)
      → AreNumberedFrom (state_by profile rules s d j).floor (frames_in more)
      → AreNumberedFrom s.floor (frames_in
      (record { tick = tick; note = note_by rules d j } ∷ more))
  one_more s d tick more (sealed_with n) right rest =
      let next : n ≡ s.floor + 1 = right n refl ∙ omega arith in
      let P : ℕ → Type 0 = λ k. n ∷ map (λ f. f.number) (frames_in more)
      ≡ k ∷ range_with_len (k + 1) (length (frames_in more)) in
      record { numbers = subst P next (ap (λ l. n ∷ l) rest.numbers) }
  one_more s d tick more (unsealed why) right rest = rest

  numbered : (s : SealState) (n m : ℕ) (ds : List Burst) → AreSpread T3_5_TICKS n ds
      → AreNumberedFrom s.floor (frames_in (notes_before m (walked (sealer profile rules) s ds)))
  numbered s n m [] spread = record { numbers = refl }
  numbered s n m (d ∷ ds) spread =
      let next : SealState = state_by profile rules s d (judged profile rules s d) in
      let P : List (Noted FullNote) → Type 0 = λ notes. AreNumberedFrom s.floor (frames_in notes) in
      ⊎_elim
      (λ early. subst P (sym (before-early m (noted (sealer profile rules) s d)
      (walked (sealer profile rules) next ds) early))
      (one_more s d (end_of d + 3) (notes_before m (walked (sealer profile rules) next ds))
      (judged profile rules s d) (judged-number s d)
      (numbered next (end_of d + 4) m ds spread.2)))
      (λ late. let later : m ≤ end_of d + 4 = omega arith in
      subst P (sym (before-late m (noted (sealer profile rules) s d)
      (walked (sealer profile rules) next ds) late
      ∙ none_before (sealer profile rules) (sealer-causal profile rules lawful) next (end_of d + 4)
      m ds spread.2 later))
      (record { numbers = refl }))
      (cases_lt (end_of d + 3) m)

  -- Numbers rise by one from the floor.
  pub sealed-numbered : (floor : ℕ) (line : List Tick)
      → AreNumberedFrom floor (sealed profile rules floor line)
  sealed-numbered floor line = numbered (at_floor floor) 0 (length line) (bursts line)
      (bursts-spread line)

  -- What is sealed stays sealed.
  pub sealed-extends : (floor : ℕ) (line more : List Tick)
      → Begins (sealed profile rules floor line) (sealed profile rules floor (line ++ more))
  sealed-extends floor line more =
      let notes : Begins (seal_notes profile rules floor line)
      (seal_notes profile rules floor (line ++ more)) =
      (sealer-extends profile rules lawful (at_floor floor) line more).notes in
      record {
        rest = frames_in notes.rest;
        is = ap frames_in notes.is ∙ filter_map-append (λ n. sealed_in n.note)
            (seal_notes profile rules floor line) notes.rest;
      }
