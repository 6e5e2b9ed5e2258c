-- The numbers of the frames that a box of several stations notes for one of them rise.
use Rattle.frame_ending.proofs.Walks.{before-early, before-late}
use Rattle.frame_ending.specs.Walk.{Noted, noted, walked, notes_before}
use Rattle.line_rules.specs.Rules.{Rules}
use Rattle.link_format.specs.NumberedFrame.{NumberedFrame, numbers_of}
use Rattle.sequence_journal.{proofs.UptimeLaws.rise-lower, specs.Uptimes.RiseFrom}
use Rattle.std.proofs.Common.{◌≡◌, ℕ, ◌<◌, Bool, List, [], ◌∷◌, Option, Some, None, length}
use Rattle.std.proofs.Common.{refl, sym, subst, if◌then◌else◌, arith, ⊎_elim}
use Rattle.std.proofs.lemmas.Bool.{cases_lt, cases_eq, eq-eqb, ne_eqb}
use Rattle.std.specs.List.{filter_map, cons_option}
use Rattle.yasir_ticks.specs.{Bursts.Burst, Bursts.bursts, declared.tick.Tick.Tick}
use Rattle.stations.proofs.Numbering.{IsNumbering}
use Rattle.stations.specs.Shared.{StationBox, SharedState, at_floors, floors_after, of_station}
use Rattle.stations.specs.Shared.{named, shared, shared_frames}

module _ {S N : Type 0} (station : List ℕ → ℕ) (rules : Rules) (box : StationBox S N)
    (is : IsNumbering rules box) (i : ℕ) where
  abbrev its : List NumberedFrame → List ℕ
  its frames = numbers_of (of_station station i frames)

  abbrev frames_in : List (Noted N) → List NumberedFrame
  frames_in notes = filter_map (λ n. box.frame_in n.note) notes

  -- a frame that is noted in time, and one that isn't
  step : (floors : ℕ → ℕ) (o : Option NumberedFrame) (frames : List NumberedFrame)
      → ((f : NumberedFrame) → o ≡ Some f → floors (station f.frame) < f.number)
      → RiseFrom (floors_after station floors o i) (its frames)
      → RiseFrom (floors i) (its (cons_option o frames)) × RiseFrom (floors i) (its frames)
  step floors None frames above rise = (rise, rise)
  step floors (Some f) frames above rise =
      let P : Bool → Type 0 = λ b. RiseFrom (if b then f.number else floors i) (its frames)
      → RiseFrom (floors i) (numbers_of (if b then f ∷ of_station station i frames
      else of_station station i frames)) × RiseFrom (floors i) (its frames) in
      ⊎_elim
      (λ same.
      let higher : floors i < f.number = subst (λ j. floors j < f.number) same (above f refl) in
      subst P (sym (eq-eqb (station f.frame) i same))
      (λ r. ((higher, r), rise-lower (floors i) f.number (its frames) (omega arith) r)) rise)
      (λ other. subst P (sym (ne_eqb (station f.frame) i other)) (λ r. (r, r)) rise)
      (cases_eq (station f.frame) i)

  walk : (m : ℕ) (s : SharedState) (ds : List Burst)
      → RiseFrom (s.floors i)
      (its (frames_in (notes_before m (walked (shared station rules box) s ds))))
  walk m s [] = tt
  walk m s (d ∷ ds) =
      let w = shared station rules box in
      let o : Option NumberedFrame = box.frame_in (w.note s d) in
      let later : List (Noted N) = walked w (w.next s d) ds in
      let both = step s.floors o (frames_in (notes_before m later))
      (λ f noted.
      let its_own = is.above (s.floors (named station rules d)) s.free_from d f noted in
      subst (λ x. s.floors (station x) < f.number) (sym its_own.1) its_own.0)
      (walk m (w.next s d) ds) in
      let P : List (Noted N) → Type 0 = λ l. RiseFrom (s.floors i) (its (frames_in l)) in
      ⊎_elim
      (λ early. subst P (sym (before-early m (noted w s d) later early)) both.0)
      (λ late. subst P (sym (before-late m (noted w s d) later late)) both.1)
      (cases_lt (w.tick s d) m)

  pub station-rises : (floors : ℕ → ℕ) (line : List Tick)
      → RiseFrom (floors i)
      (numbers_of (of_station station i (shared_frames station rules box floors line)))
  station-rises floors line = walk (length line) (at_floors floors) (bursts line)
