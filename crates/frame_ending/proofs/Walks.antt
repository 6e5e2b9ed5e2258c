-- A causal walk: what one more tick of the line adds.
use Rattle.frame_ending.proofs.Emissions.{tick_at-none, tick_at-front, laid-more, laid-same}
use Rattle.frame_ending.proofs.Spread.{AreSpread, EndBy, bursts-spread, bursts-end}
use Rattle.frame_ending.specs.Causal.{IsCausal, MayGoOn, AddsOneTick, going_on}
use Rattle.frame_ending.specs.{Laid.tick_at, Laid.laid, Walk.Walker, Walk.Noted, Walk.noted}
use Rattle.frame_ending.specs.Walk.{walked, emitted_by, state_after, notes_before, notes_at, notes_of}
use Rattle.std.proofs.Common.{◌≡◌, ◌∙◌, ◌==◌, ℕ, ◌+◌, ◌<◌, ◌≤◌, nat_lt, true, false, List, [], ◌∷◌}
use Rattle.std.proofs.Common.{◌++◌, length, refl, sym, ap, arith, append_assoc, length-append}
use Rattle.std.proofs.Common.{⊎_elim}
use Rattle.std.proofs.lemmas.Bool.{cases_lt, lt-ltb, le-ltb, cond-true, cond-false}
use Rattle.std.proofs.lemmas.List.{append-nil, Elements.filter-append}
use Rattle.yasir_ticks.proofs.BurstLaws.{alone, extended, extended-nil, extended-near, extended-far}
use Rattle.yasir_ticks.proofs.BurstLaws.{extended-cons, bursts_from-byte, bursts_from-silent}
use Rattle.yasir_ticks.specs.Bursts.{Burst, bursts, end_of}
use Rattle.yasir_ticks.specs.{BurstsOf.one, declared.TheConstants.T3_5_TICKS}
use Rattle.yasir_ticks.specs.declared.tick.Tick.{Tick, TheVariants.Silent, TheVariants.Byte}

-- ---- walks in two parts

module _ {S N : Type 0} (w : Walker S N) where
  pub walked-append : (s : S) (a b : List Burst)
      → walked w s (a ++ b) ≡ walked w s a ++ walked w (state_after w s a) b
  walked-append s [] b = refl
  walked-append s (d ∷ a) b = ap (λ l. noted w s d ∷ l) (walked-append (w.next s d) a b)

  pub emitted-append : (s : S) (a b : List Burst)
      → emitted_by w s (a ++ b) ≡ emitted_by w s a ++ emitted_by w (state_after w s a) b
  emitted-append s [] b = refl
  emitted-append s (d ∷ a) b =
      ap (λ l. w.emission s d ++ l) (emitted-append (w.next s d) a b)
      ∙ sym (append_assoc (w.emission s d) (emitted_by w (w.next s d) a)
      (emitted_by w (state_after w (w.next s d) a) b))

  pub state_after-append : (s : S) (a b : List Burst)
      → state_after w s (a ++ b) ≡ state_after w (state_after w s a) b
  state_after-append s [] b = refl
  state_after-append s (d ∷ a) b = state_after-append (w.next s d) a b

-- ---- notes by their ticks

module _ {N : Type 0} where
  pub before-early : (m : ℕ) (n : Noted N) (l : List (Noted N)) → n.tick < m
      → notes_before m (n ∷ l) ≡ n ∷ notes_before m l
  before-early m n l early = cond-true _ _ _ (lt-ltb n.tick m early)

  pub before-late : (m : ℕ) (n : Noted N) (l : List (Noted N)) → m ≤ n.tick
      → notes_before m (n ∷ l) ≡ notes_before m l
  before-late m n l late = cond-false _ _ _ (le-ltb n.tick m late)

  at-same : (m : ℕ) (n : Noted N) (l : List (Noted N)) → n.tick ≡ m
      → notes_at m (n ∷ l) ≡ n ∷ notes_at m l
  at-same m n l same = cond-true _ _ _ (is_same n.tick m same)
    where
      is_same : (a b : ℕ) → a ≡ b → (a == b) ≡ true
      is_same a b h = grind arith

  at-other : (m : ℕ) (n : Noted N) (l : List (Noted N)) → (n.tick ≡ m → ⊥)
      → notes_at m (n ∷ l) ≡ notes_at m l
  at-other m n l other = cond-false _ _ _ (is_other n.tick m other)
    where
      is_other : (a b : ℕ) → (a ≡ b → ⊥) → (a == b) ≡ false
      is_other a b h = grind arith

-- ---- causal walks

module _ {S N : Type 0} (w : Walker S N) (causal : IsCausal w) where
  -- Bursts that start at tick m or later have no notes before it.
  pub none_before : (s : S) (n m : ℕ) (ds : List Burst) → AreSpread T3_5_TICKS n ds → m ≤ n
      → notes_before m (walked w s ds) ≡ []
  none_before s n m [] spread late = refl
  none_before s n m (d ∷ ds) spread late =
      let begun : d.start ≤ w.tick s d = causal.not_before s d spread.1 in
      let h : m ≤ w.tick s d = omega arith in
      let next : m ≤ end_of d + T3_5_TICKS = omega arith in
      before-late m (noted w s d) (walked w (w.next s d) ds) h
      ∙ none_before (w.next s d) (end_of d + T3_5_TICKS) m ds spread.2 next

  -- The notes before tick m + 1 are those before tick m, followed by those at tick m.
  notes_split : (s : S) (n m : ℕ) (ds : List Burst) → AreSpread T3_5_TICKS n ds
      → notes_before (m + 1) (walked w s ds)
      ≡ notes_before m (walked w s ds) ++ notes_at m (walked w s ds)
  notes_split s n m [] spread = refl
  notes_split s n m (d ∷ ds) spread =
      let rest : notes_before (m + 1) (walked w (w.next s d) ds)
      ≡ notes_before m (walked w (w.next s d) ds) ++ notes_at m (walked w (w.next s d) ds) =
      notes_split (w.next s d) (end_of d + T3_5_TICKS) m ds spread.2 in
      let soon : w.tick s d < end_of d + T3_5_TICKS = causal.in_time s d spread.1 in
      ⊎_elim
      (λ early.
      let h : w.tick s d < m + 1 = omega arith in
      let other : w.tick s d ≡ m → ⊥ = λ e. omega arith in
      before-early (m + 1) (noted w s d) (walked w (w.next s d) ds) h
      ∙ (ap (λ l. noted w s d ∷ l) rest
      ∙ sym (ap (λ l. l ++ notes_at m (noted w s d ∷ walked w (w.next s d) ds))
      (before-early m (noted w s d) (walked w (w.next s d) ds) early)
      ∙ ap (λ l. (noted w s d ∷ notes_before m (walked w (w.next s d) ds)) ++ l)
      (at-other m (noted w s d) (walked w (w.next s d) ds) other))))
      (λ late.
      let later : m ≤ end_of d + T3_5_TICKS = omega arith in
      let none : notes_before m (walked w (w.next s d) ds) ≡ [] =
      none_before (w.next s d) (end_of d + T3_5_TICKS) m ds spread.2 later in
      let front : notes_before m (noted w s d ∷ walked w (w.next s d) ds) ≡ [] =
      before-late m (noted w s d) (walked w (w.next s d) ds) late ∙ none in
      let rest_at : notes_before (m + 1) (walked w (w.next s d) ds)
      ≡ notes_at m (walked w (w.next s d) ds) =
      rest ∙ ap (λ l. l ++ notes_at m (walked w (w.next s d) ds)) none in
      ⊎_elim
      (λ now.
      let same : w.tick s d ≡ m = omega arith in
      before-early (m + 1) (noted w s d) (walked w (w.next s d) ds) now
      ∙ (ap (λ l. noted w s d ∷ l) rest_at
      ∙ sym (ap (λ l. l ++ notes_at m (noted w s d ∷ walked w (w.next s d) ds)) front
      ∙ at-same m (noted w s d) (walked w (w.next s d) ds) same)))
      (λ past.
      let other : w.tick s d ≡ m → ⊥ = λ e. omega arith in
      before-late (m + 1) (noted w s d) (walked w (w.next s d) ds) past
      ∙ (rest_at
      ∙ sym (ap (λ l. l ++ notes_at m (noted w s d ∷ walked w (w.next s d) ds)) front
      ∙ at-other m (noted w s d) (walked w (w.next s d) ds) other)))
      (cases_lt (w.tick s d) (m + 1)))
      (cases_lt (w.tick s d) m)

  -- If a burst goes on at tick m, its notes before that tick stay the same.
  same_before : (s : S) (d : Burst) (m b : ℕ) → MayGoOn d m
      → notes_before m (noted w s (going_on d m b) ∷ []) ≡ notes_before m (noted w s d ∷ [])
  same_before s d m b may =
      ⊎_elim
      (λ early. let tick_is = causal.tick_stays s d m b may early in
      let note_is = causal.note_stays s d m b may early in
      ap (λ k. let n : Noted N = record { tick = k; note = w.note s (going_on d m b) } in
      notes_before m (n ∷ [])) tick_is
      ∙ ap (λ k. let n : Noted N = record { tick = w.tick s d; note = k } in
      notes_before m (n ∷ [])) note_is)
      (λ late. before-late m (noted w s (going_on d m b)) [] (causal.waits s d m b may late)
      ∙ sym (before-late m (noted w s d) [] late))
      (cases_lt (w.tick s d) m)

  alone_before : (s : S) (m b : ℕ) → notes_before m (noted w s (alone m b) ∷ []) ≡ []
  alone_before s m b = before-late m (noted w s (alone m b)) []
      (causal.not_before s (alone m b) (one b))

  -- A byte at tick m changes no notes before that tick.
  notes_stay : (s : S) (n m b : ℕ) (ds : List Burst) → AreSpread T3_5_TICKS n ds → EndBy m ds
      → notes_before m (walked w s (extended T3_5_TICKS m b ds)) ≡ notes_before m (walked w s ds)
  notes_stay s n m b [] spread ends = ap (λ ds. notes_before m (walked w s ds))
      (extended-nil T3_5_TICKS m b) ∙ alone_before s m b
  notes_stay s n m b (d ∷ []) spread ends =
      ⊎_elim
      (λ near. let may : MayGoOn d m = record {
        contiguous = spread.1;
        after = ends.0;
        near = near;
      } in
      ap (λ ds. notes_before m (walked w s ds)) (extended-near T3_5_TICKS m b d near)
      ∙ same_before s d m b may)
      (λ far. ap (λ ds. notes_before m (walked w s ds)) (extended-far T3_5_TICKS m b d far)
      ∙ (filter-append (λ n. nat_lt n.tick m) (noted w s d ∷ [])
      (noted w (w.next s d) (alone m b) ∷ [])
      ∙ (ap (λ l. notes_before m (noted w s d ∷ []) ++ l) (alone_before (w.next s d) m b)
      ∙ append-nil (notes_before m (noted w s d ∷ [])))))
      (cases_lt m (end_of d + T3_5_TICKS))
  notes_stay s n m b (d ∷ e ∷ ds) spread ends =
      ap (λ x. notes_before m (walked w s x)) (extended-cons T3_5_TICKS m b d e ds)
      ∙ (filter-append (λ n. nat_lt n.tick m) (noted w s d ∷ [])
      (walked w (w.next s d) (extended T3_5_TICKS m b (e ∷ ds)))
      ∙ (ap (λ l. notes_before m (noted w s d ∷ []) ++ l)
      (notes_stay (w.next s d) (end_of d + T3_5_TICKS) m b (e ∷ ds) spread.2 ends.1)
      ∙ sym (filter-append (λ n. nat_lt n.tick m) (noted w s d ∷ [])
      (walked w (w.next s d) (e ∷ ds)))))

  -- A byte at tick m that is a burst of its own has no tick of the other line before that tick.
  alone_dark : (s : S) (m b i : ℕ) → i < m → tick_at (w.emission s (alone m b) ++ []) i ≡ Silent
  alone_dark s m b i before = ap (λ x. tick_at x i) (append-nil (w.emission s (alone m b)))
      ∙ causal.dark_before s (alone m b) i (one b) before

  ticks_stay : (s : S) (n m b i : ℕ) (ds : List Burst) → AreSpread T3_5_TICKS n ds → EndBy m ds
      → i < m
      → tick_at (emitted_by w s (extended T3_5_TICKS m b ds)) i ≡ tick_at (emitted_by w s ds) i
  ticks_stay s n m b i [] spread ends before =
      ap (λ ds. tick_at (emitted_by w s ds) i) (extended-nil T3_5_TICKS m b)
      ∙ (alone_dark s m b i before ∙ sym (tick_at-none i))
  ticks_stay s n m b i (d ∷ []) spread ends before =
      ⊎_elim
      (λ near. let may : MayGoOn d m = record {
        contiguous = spread.1;
        after = ends.0;
        near = near;
      } in
      ap (λ ds. tick_at (emitted_by w s ds) i) (extended-near T3_5_TICKS m b d near)
      ∙ (ap (λ x. tick_at x i) (append-nil (w.emission s (going_on d m b)))
      ∙ (causal.emission_stays s d m b i may before
      ∙ sym (ap (λ x. tick_at x i) (append-nil (w.emission s d))))))
      (λ far. ap (λ ds. tick_at (emitted_by w s ds) i) (extended-far T3_5_TICKS m b d far)
      ∙ tick_at-front (w.emission s d) (w.emission (w.next s d) (alone m b) ++ []) [] i
      (alone_dark (w.next s d) m b i before ∙ sym (tick_at-none i)))
      (cases_lt m (end_of d + T3_5_TICKS))
  ticks_stay s n m b i (d ∷ e ∷ ds) spread ends before =
      ap (λ x. tick_at (emitted_by w s x) i) (extended-cons T3_5_TICKS m b d e ds)
      ∙ tick_at-front (w.emission s d) (emitted_by w (w.next s d) (extended T3_5_TICKS m b (e ∷ ds)))
      (emitted_by w (w.next s d) (e ∷ ds)) i
      (ticks_stay (w.next s d) (end_of d + T3_5_TICKS) m b i (e ∷ ds) spread.2 ends.1 before)

  -- ---- one more tick

  notes_before_line : (s : S) (line : List Tick) (t : Tick)
      → notes_before (length line) (walked w s (bursts (line ++ t ∷ []))) ≡ notes_of w s line
  notes_before_line s line Silent = ap (λ ds. notes_before (length line) (walked w s ds))
      (bursts_from-silent T3_5_TICKS 0 line)
  notes_before_line s line (Byte b) =
      let here : 0 + length line ≡ length line = omega arith in
      ap (λ ds. notes_before (length line) (walked w s ds))
      (bursts_from-byte T3_5_TICKS 0 (length line) b line here)
      ∙ notes_stay s 0 (length line) b (bursts line) (bursts-spread line) (bursts-end line)

  ticks_before_line : (s : S) (line : List Tick) (t : Tick) (i : ℕ) → i < length line
      → tick_at (emitted_by w s (bursts (line ++ t ∷ []))) i ≡ tick_at (emitted_by w s (bursts line)) i
  ticks_before_line s line Silent i before =
      ap (λ ds. tick_at (emitted_by w s ds) i) (bursts_from-silent T3_5_TICKS 0 line)
  ticks_before_line s line (Byte b) i before =
      let here : 0 + length line ≡ length line = omega arith in
      ap (λ ds. tick_at (emitted_by w s ds) i)
      (bursts_from-byte T3_5_TICKS 0 (length line) b line here)
      ∙ ticks_stay s 0 (length line) b i (bursts line) (bursts-spread line) (bursts-end line) before

  -- One more tick adds the notes of its step and one tick of the other line. Earlier notes and
  -- ticks stay as they are.
  pub adds_one_tick : (s : S) (line : List Tick) (t : Tick) → AddsOneTick w s line t
  adds_one_tick s line t =
      let long : length (line ++ t ∷ []) ≡ length line + 1 = length-append line (t ∷ []) in
      let more : List Burst = bursts (line ++ t ∷ []) in
      record {
        notes = ap (λ m. notes_before m (walked w s more)) long
            ∙ (notes_split s 0 (length line) more (bursts-spread (line ++ t ∷ []))
            ∙ ap (λ l. l ++ notes_at (length line) (walked w s more)) (notes_before_line s line t));
        ticks = ap (λ m. laid m (emitted_by w s more)) long
            ∙ (laid-more (length line) (emitted_by w s more)
            ∙ ap (λ l. l ++ tick_at (emitted_by w s more) (length line) ∷ [])
            (laid-same 0 (length line) (λ i. tick_at (emitted_by w s more) i)
            (λ i. tick_at (emitted_by w s (bursts line)) i)
            (λ i below. let h : i < length line = omega arith in ticks_before_line s line t i h)));
      }
