-- The control centre behind the receiver of several stations reads only what passed.
use Rattle.frame_ending.proofs.Spread.{AreSpread, EndBy, bursts-spread, bursts-end}
use Rattle.frame_ending.specs.Longer.{Begins}
use Rattle.frame_ending.specs.Walk.{Walker, walked, emitted_by, notes_before}
use Rattle.device_model.proofs.ReadLaws.{frames_ended}
use Rattle.device_model.specs.{Frames.FrameRead}
use Rattle.line_rules.specs.{Rules.Rules, RulesLaws.IsLawful}
use Rattle.link_format.specs.Profile.{Profile, delay}
use Rattle.link_box.proofs.{Apart.spread-by, Past.judged-late}
use Rattle.link_box.specs.Checking.{FullNote}
use Rattle.link_box.specs.Verdicts.{CheckState, checked}
use Rattle.link_box.specs.Verdicts.Verdict.{passed_with, refused}
use Rattle.link_box.specs.declared.check_note.{RefusedWhy.RefusedWhy}
use Rattle.receiver_laws.proofs.Readings.{told, whole, wrong, step-begins, step-all}
use Rattle.receiver_laws.specs.Reading.{delivered}
use Rattle.std.proofs.Common.{◌≡◌, ℕ, ◌+◌, ◌≤◌, Bool, true, false, List, [], ◌∷◌, ◌++◌, length, map}
use Rattle.std.proofs.Common.{◌∙◌, refl, sym, ap, subst, arith, length-append}
use Rattle.std.proofs.lemmas.List.{length-replicate}
use Rattle.yasir_ticks.proofs.BurstLaws.{bursts_from-silent_end}
use Rattle.yasir_ticks.specs.{Ticks.silent, declared.tick.Tick.TheVariants.Silent}
use Rattle.yasir_ticks.specs.{Bursts.Burst, Bursts.bursts, Bursts.end_of, BurstsOf.IsContiguous}
use Rattle.yasir_ticks.specs.declared.tick.Tick.{Tick}
use Rattle.stations.specs.Shared.{SharedState, at_floors, its_state, shared, checking_box}
use Rattle.stations.specs.Shared.{given_line, passed_frames}

module _ (station : List ℕ → ℕ) (profile : Profile) (rules : Rules) (lawful : IsLawful rules) where
  abbrev pub centre : Walker SharedState FullNote
  centre = shared station rules (checking_box profile rules)

  abbrev its : SharedState → Burst → CheckState
  its s d = its_state station rules (checking_box profile rules) s d

  module _ (cut : ℕ) (some : 2 ≤ cut) (few : cut ≤ delay profile) where
    pub centre-spread : (s : SharedState) (n m : ℕ) (ds : List Burst) → AreSpread 4 n ds
        → m ≤ s.free_from + delay profile → AreSpread cut m (emitted_by centre s ds)
    centre-spread s n m [] spread from = tt
    centre-spread s n m (d ∷ ds) spread from =
        spread-by profile rules lawful cut some few (its s d) d (checked profile rules (its s d) d) m
        (emitted_by centre (centre.next s d) ds) spread.1
        (judged-late profile rules (its s d) d) from
        (λ k within. centre-spread (centre.next s d) (end_of d + 4) k ds spread.2 within)

  module _ (ends : ℕ) (near : ends ≤ delay profile) (is_whole : Burst → Bool)
      (passes : (s : CheckState) (d : Burst) (n : ℕ) → IsContiguous 4 d.body
      → checked profile rules s d ≡ passed_with n → is_whole (whole profile rules d) ≡ true)
      (fails : (s : CheckState) (d : Burst) (why : RefusedWhy) → IsContiguous 4 d.body
      → checked profile rules s d ≡ refused why → is_whole (wrong profile rules d) ≡ false) where
    two : 2 ≤ 2
    two = omega arith

    apart : 2 ≤ delay profile
    apart = omega arith

    begins : (m : ℕ) (s : SharedState) (n : ℕ) (ds : List Burst) → AreSpread 4 n ds
        → Begins (frames_ended ends is_whole m (emitted_by centre s ds))
        (told profile rules (notes_before m (walked centre s ds)))
    begins m s n [] spread = record { rest = []; is = refl }
    begins m s n (d ∷ ds) spread =
        let next : SharedState = centre.next s d in
        step-begins profile rules lawful ends near is_whole passes fails m (its s d) d spread.1
        (emitted_by centre next ds) (walked centre next ds) (checked profile rules (its s d) d) refl
        (centre-spread 2 two apart next (end_of d + 4) (next.free_from + delay profile) ds spread.2
        (omega arith))
        (begins m next (end_of d + 4) ds spread.2)

    all : (m k : ℕ) → k + delay profile + ends ≤ m → (s : SharedState) (n : ℕ) (ds : List Burst)
        → AreSpread 4 n ds → EndBy k ds
        → frames_ended ends is_whole m (emitted_by centre s ds)
        ≡ told profile rules (notes_before m (walked centre s ds))
    all m k behind s n [] spread ended = refl
    all m k behind s n (d ∷ ds) spread ended =
        let next : SharedState = centre.next s d in
        let end : end_of d ≤ k = ended.0 in
        step-all profile rules lawful ends near is_whole passes fails m (its s d) d spread.1
        (emitted_by centre next ds) (walked centre next ds) (checked profile rules (its s d) d) refl
        (omega arith) (all m k behind next (end_of d + 4) ds spread.2 ended.1)

    module _ (floors : ℕ → ℕ) (reads : List Tick → List FrameRead)
        (link_read : (link : List Tick) → reads (given_line station profile rules floors link)
        ≡ frames_ended ends is_whole (length link)
        (emitted_by centre (at_floors floors) (bursts link))) where
      pub centre-begins : (link : List Tick)
          → Begins (reads (given_line station profile rules floors link))
          (map (delivered profile) (passed_frames station profile rules floors link))
      centre-begins link =
          let P : List FrameRead → Type 0 = λ x.
          Begins x (map (delivered profile) (passed_frames station profile rules floors link)) in
          subst P (sym (link_read link))
          (begins (length link) (at_floors floors) 0 (bursts link) (bursts-spread link))

      pub centre-all : (link : List Tick) (rest : ℕ) → delay profile + ends ≤ rest
          → reads (given_line station profile rules floors (link ++ silent rest))
          ≡ map (delivered profile)
          (passed_frames station profile rules floors (link ++ silent rest))
      centre-all link rest behind =
          let long : List Tick = link ++ silent rest in
          let sum : length long ≡ length link + rest =
          length-append link (silent rest)
          ∙ ap (λ n. length link + n) (length-replicate rest Silent) in
          let P : List Burst → Type 0 = λ ds. EndBy (length link) ds in
          link_read long
          ∙ all (length long) (length link) (omega arith) (at_floors floors) 0 (bursts long)
          (bursts-spread long)
          (subst P (sym (bursts_from-silent_end 4 0 rest link)) (bursts-end link))
