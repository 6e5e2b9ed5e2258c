-- What a device reads of bursts that are laid on a line, and in which steps it reads them.
use Rattle.frame_ending.proofs.{Emissions.laid-more, Spread.AreSpread}
use Rattle.frame_ending.specs.Laid.{tick_at, laid}
use Rattle.device_model.{proofs.ReadLaws.frames_ended, specs.Frames.FrameRead}
use Rattle.{device_model.specs.RtuReads.frame_in, line_spacer.proofs.Arriving.arrivals-one}
use Rattle.line_spacer.specs.Arrivals.{Arrival, arriving, arrivals_behind, arrivals}
use Rattle.std.proofs.Common.{◌≡◌, ◌∙◌, ℕ, zero, suc, ◌+◌, ◌-◌, ◌<◌, ◌≤◌, List, [], ◌∷◌, ◌++◌}
use Rattle.std.proofs.Common.{length, map, refl, sym, ap, arith, cond, Bool, ◌&&◌, nat_le, true}
use Rattle.std.proofs.{Common.false, Common.⊎_elim, lemmas.Bool.cases_lt}
use Rattle.std.proofs.lemmas.{Bool.le-leb, Bool.lt-leb, List.append-nil, List.map-append}
use Rattle.std.{proofs.lemmas.List.FromFn.length-map-range_with_len, specs.List.filter}
use Rattle.yasir_ticks.specs.{Bursts.Burst, Bursts.end_of, BurstsOf.IsContiguous, BurstsOf.one}
use Rattle.yasir_ticks.specs.{BurstsOf.more, declared.tick.Tick.Tick}

pub contiguous-some : (cut : ℕ) (x : List Tick) → IsContiguous cut x → 0 < length x
contiguous-some cut x (one b) = omega arith
contiguous-some cut x (more b gap rest few contiguous) = omega arith

-- the arrival of a burst that is read `ends` ticks after its end
abbrev pub arrival_of : ℕ → Burst → Arrival
arrival_of ends d = record { step = end_of d + ends - 1; frame = frame_in d }

module _ (ends : ℕ) (whole : Burst → Bool) where
  -- those of these bursts that are whole and have ended at least `ends` ticks before tick m
  abbrev pub ended : ℕ → List Burst → List Burst
  ended m ds = filter (λ d. nat_le (end_of d + ends) m && whole d) ds

  ended-yes : (m : ℕ) (d : Burst) (ds : List Burst) → end_of d + ends ≤ m
      → ended m (d ∷ ds) ≡ cond (whole d) (d ∷ ended m ds) (ended m ds)
  ended-yes m d ds by =
      ap (λ v. cond (v && whole d) (d ∷ ended m ds) (ended m ds))
      (le-leb (end_of d + ends) m by)

  ended-no : (m : ℕ) (d : Burst) (ds : List Burst) → m < end_of d + ends
      → ended m (d ∷ ds) ≡ ended m ds
  ended-no m d ds yet =
      ap (λ v. cond (v && whole d) (d ∷ ended m ds) (ended m ds))
      (lt-leb (end_of d + ends) m yet)

  ended-none : (m n : ℕ) (ds : List Burst) → AreSpread 2 n ds → m ≤ n + ends → ended m ds ≡ []
  ended-none m n [] spread late = refl
  ended-none m n (d ∷ ds) spread late =
      let from : n ≤ d.start = spread.0 in
      let long = contiguous-some 2 d.body spread.1 in
      ended-no m d ds (omega arith)
      ∙ ended-none m (end_of d + 2) ds spread.2 (omega arith)

  -- the bursts that have ended with one more tick, but not without it: they are read in its step
  record EndsNow (m : ℕ) (ds : List Burst) : Type 0 where
    new : List Burst
    is : ended (m + 1) ds ≡ ended m ds ++ new
    step : map (arrival_of ends) new ≡ map (arriving m) (map frame_in new)

  by_whole : (v : Bool) (d : Burst) (x new : List Burst)
      → cond v (d ∷ (x ++ new)) (x ++ new) ≡ cond v (d ∷ x) x ++ new
  by_whole true d x new = refl
  by_whole false d x new = refl

  this-step : (v : Bool) (m : ℕ) (d : Burst) → end_of d + ends ≡ m + 1
      → map (arrival_of ends) (cond v (d ∷ []) [])
      ≡ map (arriving m) (map frame_in (cond v (d ∷ []) []))
  this-step true m d at =
      let step : end_of d + ends - 1 ≡ m = omega arith in
      ap (λ k. let a : Arrival = record { step = k; frame = frame_in d } in a ∷ []) step
  this-step false m d at = refl

  ends-now : (m n : ℕ) (ds : List Burst) → AreSpread 2 n ds → EndsNow m ds
  ends-now m n [] spread = record { new = []; is = refl; step = refl }
  ends-now m n (d ∷ ds) spread =
      let others = ends-now m (end_of d + 2) ds spread.2 in
      ⊎_elim
      (λ before. record {
        new = others.new;
        is = ended-yes (m + 1) d ds (omega arith)
            ∙ (ap (λ x. cond (whole d) (d ∷ x) x) others.is
            ∙ (by_whole (whole d) d (ended m ds) others.new
            ∙ ap (λ x. x ++ others.new) (sym (ended-yes m d ds (omega arith)))));
        step = others.step;
      })
      (λ from.
      let none : ended m (d ∷ ds) ≡ [] =
      ended-no m d ds (omega arith)
      ∙ ended-none m (end_of d + 2) ds spread.2 (omega arith) in
      let later : ended (m + 1) ds ≡ [] =
      ended-none (m + 1) (end_of d + 2) ds spread.2 (omega arith) in
      ⊎_elim
      (λ after. record {
        new = [];
        is = ended-no (m + 1) d ds after ∙ (later ∙ sym (append-nil (ended m (d ∷ ds)) ∙ none));
        step = refl;
      })
      (λ by. record {
        new = cond (whole d) (d ∷ []) [];
        is = ended-yes (m + 1) d ds by
            ∙ (ap (λ x. cond (whole d) (d ∷ x) x) later
            ∙ ap (λ x. x ++ cond (whole d) (d ∷ []) []) (sym none));
        step = this-step (whole d) m d (omega arith);
      })
      (cases_lt (m + 1) (end_of d + ends)))
      (cases_lt (end_of d + ends) (m + 1))

  -- ---- what is read of these bursts

  module _ (heard : List Tick → List FrameRead) (ds : List Burst) (spread : AreSpread 2 0 ds)
      (laid_read : (m : ℕ) → heard (laid m ds) ≡ frames_ended ends whole m ds) where
    -- Each of these bursts that is whole and has ended is read, in the step that `arrival_of` gives
    -- it.
    pub arrivals-laid : (m : ℕ)
        → arrivals heard (laid m ds) ≡ map (arrival_of ends) (ended m ds)
    unfolding arrivals_behind
    arrivals-laid zero = ap (map (arrival_of ends)) (sym (ended-none 0 0 ds spread (omega arith)))
    arrivals-laid (suc m) =
        let now = ends-now m 0 ds spread in
        let next : suc m ≡ m + 1 = omega arith in
        let long : length (laid m ds) ≡ m =
        length-map-range_with_len (λ i. tick_at ds i) 0 m in
        let new : List FrameRead = map frame_in now.new in
        let read : heard (laid m ds ++ tick_at ds m ∷ []) ≡ heard (laid m ds) ++ new =
        ap heard (sym (laid-more m ds))
        ∙ (laid_read (m + 1)
        ∙ (ap (map frame_in) now.is
        ∙ (map-append frame_in (ended m ds) now.new
        ∙ ap (λ x. x ++ new) (sym (laid_read m))))) in
        ap (λ k. arrivals heard (laid k ds)) next
        ∙ (ap (arrivals heard) (laid-more m ds)
        ∙ (arrivals-one heard (laid m ds) (tick_at ds m) new read
        ∙ (ap (λ k. arrivals heard (laid m ds) ++ map (arriving k) new) long
        ∙ (ap (λ x. x ++ map (arriving m) new) (arrivals-laid m)
        ∙ (ap (λ x. map (arrival_of ends) (ended m ds) ++ x) (sym now.step)
        ∙ (sym (map-append (arrival_of ends) (ended m ds) now.new)
        ∙ (ap (map (arrival_of ends)) (sym now.is)
        ∙ ap (λ k. map (arrival_of ends) (ended k ds)) (sym next))))))))

    -- The frames that arrive are all that is read.
    pub frames-laid : (m : ℕ)
        → map (λ a. a.frame) (arrivals heard (laid m ds)) ≡ heard (laid m ds)
    frames-laid m =
        ap (map (λ a. a.frame)) (arrivals-laid m)
        ∙ (frames-of (ended m ds) ∙ sym (laid_read m))
      where
        frames-of : (x : List Burst)
            → map (λ a. a.frame) (map (arrival_of ends) x) ≡ map frame_in x
        frames-of [] = refl
        frames-of (d ∷ x) = ap (λ y. frame_in d ∷ y) (frames-of x)
