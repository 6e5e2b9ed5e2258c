-- The numbers of the passed frames of a link rise, and each of these frames is on the link.
use Rattle.frame_ending.proofs.Walks.{before-early, before-late}
use Rattle.frame_ending.specs.Walk.{Noted, walked, notes_before}
use Rattle.line_rules.specs.{Rules.Rules, RulesLaws.IsLawful}
use Rattle.link_format.specs.NumberedFrame.{NumberedFrame, numbers_of}
use Rattle.{link_format.specs.Profile.Profile, link_box.proofs.Passing.passed-passing}
use Rattle.link_box.{proofs.Passing.number-within, specs.Checking.FullNote}
use Rattle.link_box.specs.Checking.{note_tick, state_by, note_by, checker, at_floor, passed}
use Rattle.link_box.specs.Verdicts.{CheckState, Verdict, trailer_of, checked}
use Rattle.link_box.specs.Verdicts.Verdict.{passed_with, refused, dropped}
use Rattle.receiver_laws.proofs.Notes.{frames_in, unnoted}
use Rattle.receiver_laws.proofs.Standing.{AreOn, bursts-on, stands-on}
use Rattle.receiver_laws.specs.Standing.{StandsOn, HavePassed, numbered_frame}
use Rattle.sequence_journal.{proofs.UptimeLaws.rise-lower, specs.Uptimes.RiseFrom}
use Rattle.std.proofs.Common.{◌≡◌, ℕ, ◌<◌, ◌≤◌, true, List, [], ◌∷◌, length, refl, sym, subst}
use Rattle.std.proofs.{Common.arith, Common.⊎_elim, lemmas.Bool.cases_lt}
use Rattle.std.proofs.lemmas.List.Elements.{All-nil, All-cons}
use Rattle.{std.specs.List.All, yasir_ticks.proofs.BurstsOfLaws.bursts_from-are}
use Rattle.yasir_ticks.specs.{Bursts.Burst, Bursts.bursts, declared.tick.Tick.Tick}

module _ (profile : Profile) (rules : Rules) where
  abbrev note_of : Burst → Verdict → Noted FullNote
  note_of d v = record { tick = note_tick profile rules d v; note = note_by rules d v }

  abbrev next : CheckState → Burst → CheckState
  next s d = state_by profile rules s d (checked profile rules s d)

  pub above-floor : (s : CheckState) (d : Burst) (n : ℕ) → checked profile rules s d ≡ passed_with n
      → (s.floor < n) × (n ≤ profile.limit)
  above-floor s d n is =
      let number = number-within profile s.floor (trailer_of profile rules d) n
      (passed-passing profile rules s d n is).numbered in
      (number.1, number.2)

  -- ---- numbers

  rise-step : (m : ℕ) (s : CheckState) (d : Burst) (notes : List (Noted FullNote)) (v : Verdict)
      → checked profile rules s d ≡ v
      → RiseFrom (state_by profile rules s d v).floor
      (numbers_of (frames_in (notes_before m notes)))
      → RiseFrom s.floor (numbers_of (frames_in (notes_before m (note_of d v ∷ notes))))
  rise-step m s d notes (passed_with n) is rise =
      let P : List (Noted FullNote) → Type 0 = λ l. RiseFrom s.floor (numbers_of (frames_in l)) in
      let above : s.floor < n = (above-floor s d n is).0 in
      ⊎_elim
      (λ early. subst P (sym (before-early m (note_of d (passed_with n)) notes early))
      (above, rise))
      (λ late. subst P (sym (before-late m (note_of d (passed_with n)) notes late))
      (rise-lower s.floor n (numbers_of (frames_in (notes_before m notes))) (omega arith) rise))
      (cases_lt (note_tick profile rules d (passed_with n)) m)
  rise-step m s d notes v is rise =
      let P : List NumberedFrame → Type 0 = λ l. RiseFrom s.floor (numbers_of l) in
      subst P (sym (unnoted m (note_of d v) notes refl)) rise

  rise-walk : (m : ℕ) (s : CheckState) (ds : List Burst)
      → RiseFrom s.floor
      (numbers_of (frames_in (notes_before m (walked (checker profile rules) s ds))))
  rise-walk m s [] = tt
  rise-walk m s (d ∷ ds) =
      rise-step m s d (walked (checker profile rules) (next s d) ds) (checked profile rules s d)
      refl (rise-walk m (next s d) ds)

  -- ---- what holds for each burst that passes holds for each frame

  module _ (P : NumberedFrame → Type 0) (m : ℕ) where
    pub each-step : (s : CheckState) (d : Burst) (notes : List (Noted FullNote)) (v : Verdict)
        → ((n : ℕ) → v ≡ passed_with n → P (numbered_frame rules d n))
        → All P (frames_in (notes_before m notes))
        → All P (frames_in (notes_before m (note_of d v ∷ notes)))
    each-step s d notes (passed_with n) each rest =
        let Q : List (Noted FullNote) → Type 0 = λ l. All P (frames_in l) in
        ⊎_elim
        (λ early. subst Q (sym (before-early m (note_of d (passed_with n)) notes early))
        (All-cons P (numbered_frame rules d n) (frames_in (notes_before m notes)) (each n refl)
        rest))
        (λ late. subst Q (sym (before-late m (note_of d (passed_with n)) notes late)) rest)
        (cases_lt (note_tick profile rules d (passed_with n)) m)
    each-step s d notes v each rest =
        let Q : List NumberedFrame → Type 0 = λ l. All P l in
        subst Q (sym (unnoted m (note_of d v) notes refl)) rest

    each-walk : (link : List Tick)
        → ((s : CheckState) (d : Burst) (ds : List Burst) (n : ℕ) → AreOn link (d ∷ ds)
        → checked profile rules s d ≡ passed_with n → P (numbered_frame rules d n))
        → (s : CheckState) (ds : List Burst) → AreOn link ds
        → All P (frames_in (notes_before m (walked (checker profile rules) s ds)))
    each-walk link each s [] on = All-nil P
    each-walk link each s (d ∷ ds) on =
        each-step s d (walked (checker profile rules) (next s d) ds) (checked profile rules s d)
        (λ n is. each s d ds n on is)
        (each-walk link each (next s d) ds on.5)

  pub have_passed : IsLawful rules → (floor : ℕ) (link : List Tick)
      → HavePassed profile rules floor link (passed profile rules floor link)
  have_passed lawful floor link =
      let on : AreOn link (bursts link) =
      bursts-on link (bursts link) [] link 0 refl refl (bursts_from-are 4 0 link) in
      let m : ℕ = length link in
      record {
        rise = rise-walk m (at_floor floor) (bursts link);
        within = each-walk (λ (f : NumberedFrame). f.number ≤ profile.limit) m link
            (λ s d ds n here is. (above-floor s d n is).1) (at_floor floor) (bursts link) on;
        framed = each-walk (λ (f : NumberedFrame). rules.is_frame f.frame ≡ true) m link
            (λ s d ds n here is. (passed-passing profile rules s d n is).framed)
            (at_floor floor) (bursts link) on;
        stand = λ ticks some. each-walk (StandsOn profile link) m link
            (λ s d ds n here is. stands-on profile some rules lawful link ticks s d ds n
            (passed-passing profile rules s d n is) here)
            (at_floor floor) (bursts link) on;
      }
