-- What is accepted: frames of the protocol, each of which begins as soon as it may.
use Rattle.{device_model.specs.Frames.FrameRead, line_rules.specs.Rules.Rules}
use Rattle.line_spacer.specs.Arrivals.{Arrival, arriving, gained, arrivals_behind, arrivals}
use Rattle.line_spacer.specs.Spacing.{Spaced, count_from, free_from, sent_from, take_in}
use Rattle.line_spacer.specs.Spacing.{accepted_of}
use Rattle.spacer_laws.specs.SpacesOut.{IsSent, AreApart, ReadsFrames}
use Rattle.std.proofs.Common.{◌≡◌, ℕ, zero, suc, ◌+◌, ◌<◌, ◌≤◌, List, [], ◌∷◌, ◌++◌, length, map}
use Rattle.std.proofs.Common.{take, max, fold, refl, sym, subst, arith, true, ⊎_elim, length-append}
use Rattle.std.proofs.{Common.append_assoc, lemmas.Bool.cases_lt, lemmas.Bool.le-leb}
use Rattle.std.proofs.lemmas.{Bool.lt-leb, List.Elements.All-append, List.Elements.All-drop}
use Rattle.std.{proofs.lemmas.List.Elements.All-map, specs.Prelude.All}
use Rattle.yasir_ticks.specs.{Bursts.Burst, Bursts.end_of, declared.tick.Tick.Tick}

pub all-first : {X : Type 0} (P : X → Type 0) (x : X) (xs : List X) → All P (x ∷ xs) → P x
all-first P x xs all = all 0 x (omega arith)

pub all-others : {X : Type 0} (P : X → Type 0) (x : X) (xs : List X) → All P (x ∷ xs) → All P xs
all-others P x xs all = λ k d within. let more : suc k < length (x ∷ xs) = omega arith in
    all (suc k) d more

pub all-cons : {X : Type 0} (P : X → Type 0) (x : X) (xs : List X) → P x → All P xs → All P (x ∷ xs)
all-cons P x xs first others zero d within = first
all-cons P x xs first others (suc k) d within = others k d (omega arith)

-- A property of every burst that is a frame holds for all bursts that are apart.
pub all-sent : (P : Burst → Type 0) (rules : Rules) (gap n : ℕ) (ds : List Burst)
    → ((d : Burst) → IsSent rules d → P d) → AreApart rules gap n ds → All P ds
all-sent P rules gap n [] each apart = λ k d none. absurd (omega arith)
all-sent P rules gap n (d ∷ ds) each apart =
    all-cons P d ds (each d apart.1) (all-sent P rules gap (end_of d + gap) ds each apart.2)

-- ---- an arrival is accepted, or lost

module _ (gap cap : ℕ) where
  -- the tick in which the frame of an arrival begins, if it is accepted
  abbrev pub begin_of : Spaced → Arrival → ℕ
  begin_of s a = max (a.step + 1) (free_from gap 0 s.accepted)

  abbrev pub with_frame : Spaced → Arrival → Spaced
  with_frame s a = record {
    accepted = s.accepted ++ sent_from (begin_of s a) a.frame.frame ∷ [];
    lost = s.lost;
  }

  abbrev pub without_frame : Spaced → Arrival → Spaced
  without_frame s a = record { accepted = s.accepted; lost = s.lost ++ a ∷ [] }

  pub taken-few : (s : Spaced) (a : Arrival) → count_from (a.step + 1) s.accepted < cap
      → take_in gap cap s a ≡ with_frame s a
  unfolding take_in
  taken-few s a few = rw (lt-leb cap (count_from (a.step + 1) s.accepted) few) refl

  pub taken-many : (s : Spaced) (a : Arrival) → cap ≤ count_from (a.step + 1) s.accepted
      → take_in gap cap s a ≡ without_frame s a
  unfolding take_in
  taken-many s a many = rw (le-leb cap (count_from (a.step + 1) s.accepted) many) refl

  -- A property of what is made of some arrivals holds with one more, if it holds both when the
  -- frame is accepted, for which there must be room, and when it is lost.
  pub taken-keeps : (P : Spaced → Type 0) (s : Spaced) (a : Arrival)
      → (count_from (a.step + 1) s.accepted < cap → P (with_frame s a)) → P (without_frame s a)
      → P (take_in gap cap s a)
  taken-keeps P s a kept lost =
      ⊎_elim
      (λ few. subst P (sym (taken-few s a few)) (kept few))
      (λ many. subst P (sym (taken-many s a many)) lost)
      (cases_lt (count_from (a.step + 1) s.accepted) cap)

-- ---- a property of each frame that is read

-- Each frame is read in the step of a tick of the line.
pub arrivals-steps : (reads : List Tick → List FrameRead) (line x : List Tick) (m : ℕ)
    → length line + length x ≡ m → All (λ (a : Arrival). a.step + 1 ≤ m)
    (arrivals_behind reads line x)
unfolding arrivals_behind
arrivals-steps reads line [] m long = λ k d none. absurd (omega arith)
arrivals-steps reads line (t ∷ x) m long =
    let IsBefore : Arrival → Type 0 = λ a. a.step + 1 ≤ m in
    let new : List FrameRead = gained reads line t in
    let one = length-append line (t ∷ []) in
    let here : length line + 1 ≤ m = omega arith in
    All-append IsBefore (map (arriving (length line)) new)
    (arrivals_behind reads (line ++ t ∷ []) x)
    (All-map IsBefore (arriving (length line)) new (λ k d within. here))
    (arrivals-steps reads (line ++ t ∷ []) x m (omega arith))

-- A property of all frames that are read of the fronts of a line holds for the line's arrivals.
pub arrivals-all : (R : FrameRead → Type 0) (reads : List Tick → List FrameRead)
    (line x : List Tick)
    → ((n : ℕ) → All R (reads (line ++ take n x)))
    → All (λ (a : Arrival). R a.frame) (arrivals_behind reads line x)
unfolding arrivals_behind
arrivals-all R reads line [] fronts = λ k d none. absurd (omega arith)
arrivals-all R reads line (t ∷ x) fronts =
    let IsSuch : Arrival → Type 0 = λ a. R a.frame in
    let new : List FrameRead = gained reads line t in
    All-append IsSuch (map (arriving (length line)) new) (arrivals_behind reads (line ++ t ∷ []) x)
    (All-map IsSuch (arriving (length line)) new
    (All-drop R (length (reads line)) (reads (line ++ t ∷ [])) (fronts 1)))
    (arrivals-all R reads (line ++ t ∷ []) x
    (λ n. let P : List Tick → Type 0 = λ y. All R (reads y) in
    subst P (sym (append_assoc line (t ∷ []) (take n x))) (fronts (suc n))))

-- ---- frames of the protocol

module _ (rules : Rules) (reads : List Tick → List FrameRead)
    (sound : ReadsFrames rules reads) where
  abbrev pub IsRight : Arrival → Type 0
  IsRight a = rules.is_frame a.frame.frame ≡ true

  module _ (gap cap : ℕ) where
    abbrev Apart : Spaced → Type 0
    Apart s = AreApart rules gap 0 s.accepted

    apart-append : (n : ℕ) (ds : List Burst) (e : Burst) → AreApart rules gap n ds
        → free_from gap n ds ≤ e.start → IsSent rules e → AreApart rules gap n (ds ++ e ∷ [])
    apart-append n [] e apart from is = (from, is, tt)
    apart-append n (d ∷ ds) e apart from is =
        (apart.0, apart.1, apart-append (end_of d + gap) ds e apart.2 from is)

    all-apart : (s : Spaced) (more : List Arrival) → Apart s → All IsRight more
        → Apart (fold (take_in gap cap) s more)
    all-apart s [] apart right = apart
    all-apart s (a ∷ more) apart right =
        let framed : rules.is_frame a.frame.frame ≡ true = all-first IsRight a more right in
        let from : free_from gap 0 s.accepted ≤ begin_of gap cap s a = grind arith in
        all-apart (take_in gap cap s a) more
        (taken-keeps gap cap Apart s a
        (λ few. apart-append 0 s.accepted (sent_from (begin_of gap cap s a) a.frame.frame) apart
        from (record { frame = a.frame.frame; is = refl; framed = framed }))
        apart)
        (all-others IsRight a more right)

    -- Accepted frames are frames of the protocol, and are apart.
    pub accepted-apart : (line : List Tick) → AreApart rules gap 0 (accepted_of reads gap cap line)
    accepted-apart line =
        all-apart (record { accepted = []; lost = [] }) (arrivals reads line) tt
        (arrivals-all (λ (f : FrameRead). rules.is_frame f.frame ≡ true) reads [] line
        (λ n. sound (take n line)))
