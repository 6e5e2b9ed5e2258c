-- The floor of the state is the number of the last frame that has passed.
use Rattle.frame_ending.proofs.Coming.{notes_before-come}
use Rattle.frame_ending.specs.Walk.{Noted, walked, state_after}
use Rattle.{line_rules.specs.Rules.Rules, link_format.specs.NumberedFrame.NumberedFrame}
use Rattle.link_format.specs.{NumberedFrame.last_number, Profile.Profile}
use Rattle.link_box.specs.Checking.{FullNote, checker, at_floor, state_by, note_by, note_tick}
use Rattle.link_box.specs.{Checking.passed_in, Checking.passed, Holding.HasWalked}
use Rattle.link_box.specs.Verdicts.{CheckState, Verdict, checked}
use Rattle.link_box.specs.Verdicts.Verdict.{passed_with, refused, dropped}
use Rattle.std.proofs.Common.{◌≡◌, ◌∙◌, ℕ, Bool, List, [], ◌∷◌, length, refl, sym, ap, Option}
use Rattle.std.specs.List.{filter_map}
use Rattle.yasir_ticks.specs.{Bursts.Burst, Bursts.bursts, declared.tick.Tick.Tick}

abbrev frames_in : List (Noted FullNote) → List NumberedFrame
frames_in notes = filter_map (λ n. passed_in n.note) notes

module _ (profile : Profile) (rules : Rules) where
  number-more : (s : CheckState) (d : Burst) (tick floor : ℕ) (v : Verdict)
      (more : List (Noted FullNote))
      → floor ≡ last_number (state_by profile rules s d v).floor (frames_in more)
      → floor ≡ last_number s.floor (frames_in
      (record { tick = tick; note = note_by rules d v } ∷ more))
  number-more s d tick floor (passed_with number) more rest = rest
  number-more s d tick floor (refused why) more rest = rest
  number-more s d tick floor (dropped why) more rest = rest

  noted-number : (s : CheckState) (ds : List Burst)
      → (state_after (checker profile rules) s ds).floor
      ≡ last_number s.floor (frames_in (walked (checker profile rules) s ds))
  noted-number s [] = refl
  noted-number s (d ∷ ds) =
      let v : Verdict = checked profile rules s d in
      let next : CheckState = state_by profile rules s d v in
      number-more s d (note_tick profile rules d v)
      (state_after (checker profile rules) next ds).floor v
      (walked (checker profile rules) next ds) (noted-number next ds)

  pub walked-number : (floor : ℕ) (line : List Tick) (s : CheckState) (passes : Bool)
      (left : List ℕ) (live : List Tick) (owed : ℕ) (waiting : Option Burst)
      → HasWalked profile rules floor (length line) (bursts line) s passes left live owed waiting
      → s.floor ≡ last_number floor (passed profile rules floor line)
  walked-number floor line s passes left live owed waiting walk =
      sym (ap (λ x. x.floor) walk.come.state)
      ∙ (noted-number (at_floor floor) walk.come.settled
      ∙ ap (λ x. last_number floor (frames_in x))
      (sym (notes_before-come (checker profile rules) (at_floor floor) (length line) (bursts line) s
      walk.emissions waiting walk.come)))
