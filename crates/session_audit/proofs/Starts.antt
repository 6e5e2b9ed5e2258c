-- Each frame that passes starts on the link.
use Rattle.frame_ending.proofs.{Spread.EndBy, Spread.bursts-end, Walks.before-early, Walks.before-late}
use Rattle.frame_ending.specs.Walk.{Walker, Noted, noted, walked, notes_before}
use Rattle.{line_rules.specs.Rules.Rules, link_format.specs.NumberedFrame.NumberedFrame}
use Rattle.link_format.specs.Profile.{Profile}
use Rattle.link_box.specs.Checking.{at_floor, checker, note_by, passed, passed_in}
use Rattle.link_box.specs.Verdicts.{Verdict, checked}
use Rattle.link_box.specs.Verdicts.Verdict.{passed_with}
use Rattle.session_audit.specs.FramesOf.{frames_among}
use Rattle.std.proofs.Common.{◌≡◌, ℕ, ◌≤◌, List, [], ◌∷◌, length, Option, Some, None, IfSome, refl}
use Rattle.std.proofs.Common.{sym, subst, arith, ⊎_elim}
use Rattle.std.proofs.lemmas.{Bool.cases_lt, List.Elements.All-nil, List.Elements.All-cons}
use Rattle.{std.specs.List.All, yasir_ticks.specs.Bursts.Burst, yasir_ticks.specs.Bursts.bursts}
use Rattle.yasir_ticks.specs.declared.tick.Tick.{Tick}

-- ---- any walk whose frames start with their bursts

module _ {S N : Type 0} (w : Walker S N) (frame_in : N → Option NumberedFrame)
    (starts : (s : S) (d : Burst) → IfSome (frame_in (w.note s d)) (λ f. f.start ≡ d.start))
    (end : ℕ) where
  abbrev Within : NumberedFrame → Type 0
  Within f = f.start ≤ end

  within : (o : Option NumberedFrame) (start : ℕ) → start ≤ end
      → IfSome o (λ f. f.start ≡ start) → IfSome o Within
  within None start few is = tt
  within (Some f) start few is = omega (arith, few, is)

  one-more : (n : Noted N) (notes : List (Noted N)) (o : Option NumberedFrame)
      → frame_in n.note ≡ o → IfSome o Within → All Within (frames_among frame_in notes)
      → All Within (frames_among frame_in (n ∷ notes))
  one-more n notes None is here rest = rw is rest
  one-more n notes (Some f) is here rest =
      rw is (All-cons Within f (frames_among frame_in notes) here rest)

  pub walk-starts : (m : ℕ) (s : S) (ds : List Burst) → EndBy end ds
      → All Within (frames_among frame_in (notes_before m (walked w s ds)))
  walk-starts m s [] ends = All-nil Within
  walk-starts m s (d ∷ ds) ends =
      let notes = walked w (w.next s d) ds in
      let n : Noted N = noted w s d in
      let few : d.start ≤ end = omega (arith, ends.0) in
      let rest : All Within (frames_among frame_in (notes_before m notes)) =
      walk-starts m (w.next s d) ds ends.1 in
      let P : List (Noted N) → Type 0 = λ l. All Within (frames_among frame_in l) in
      ⊎_elim
      (λ early. subst P (sym (before-early m n notes early))
      (one-more n (notes_before m notes) (frame_in (w.note s d)) refl
      (within (frame_in (w.note s d)) d.start few (starts s d)) rest))
      (λ late. subst P (sym (before-late m n notes late)) rest)
      (cases_lt (w.tick s d) m)

-- ---- the receiver

starts-with : (rules : Rules) (d : Burst) (v : Verdict)
    → IfSome (passed_in (note_by rules d v)) (λ f. f.start ≡ d.start)
starts-with rules d (passed_with number) = refl
starts-with rules d v = tt

pub passed-starts : (profile : Profile) (rules : Rules) (floor : ℕ) (link : List Tick)
    → All (λ f. f.start ≤ length link) (passed profile rules floor link)
passed-starts profile rules floor link = walk-starts (checker profile rules) passed_in
    (λ s d. starts-with rules d (checked profile rules s d)) (length link) (length link)
    (at_floor floor) (bursts link) (bursts-end link)
