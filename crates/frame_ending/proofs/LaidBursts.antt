-- Bursts that are laid on a line are the bursts of that line. If they are laid n ticks later, they
-- come after n silent ticks.
use Rattle.frame_ending.proofs.{Emissions.tick_at-none, Spread.AreSpread, Spread.EndBy}
use Rattle.frame_ending.specs.Laid.{tick_at, laid, later}
use Rattle.std.proofs.Common.{◌≡◌, ◌∙◌, ◌&&◌, ◌⊎◌, inl, inr, ℕ, zero, suc, ◌+◌, ◌-◌, ◌<◌, ◌≤◌}
use Rattle.std.proofs.Common.{nat_lt, nat_le, true, false, List, [], ◌∷◌, ◌++◌, length, map, refl}
use Rattle.std.proofs.Common.{sym, ap, arith, get_or}
use Rattle.std.{proofs.lemmas.List.FromFn.length-map-range_with_len, specs.List.range_with_len}
use Rattle.yasir_ticks.proofs.BurstsOfLaws.{bursts_from-only}
use Rattle.yasir_ticks.specs.Bursts.{Burst, bursts_from, end_of}
use Rattle.yasir_ticks.specs.{BurstsOf.StartsFrom, BurstsOf.AreBursts, Ticks.silent}
use Rattle.yasir_ticks.specs.declared.tick.Tick.{Tick, TheVariants.Silent}

-- ---- ticks by their numbers

ticks-parts : (f : ℕ → Tick) (a m n k b : ℕ) → m + n ≡ k → a + m ≡ b
    → map f (range_with_len a k) ≡ map f (range_with_len a m) ++ map f (range_with_len b n)
ticks-parts f a zero n k b sum at =
    let same : k ≡ n = omega arith in
    let here : a ≡ b = omega arith in
    ap (λ x. map f (range_with_len a x)) same ∙ ap (λ x. map f (range_with_len x n)) here
ticks-parts f a (suc m) n zero b sum at = absurd (omega arith)
ticks-parts f a (suc m) n (suc k) b sum at =
    let less : m + n ≡ k = omega arith in
    let next : a + 1 + m ≡ b = omega arith in
    ap (λ l. f a ∷ l) (ticks-parts f (a + 1) m n k b less next)

ticks-same : (f g : ℕ → Tick) (a n : ℕ) → ((i : ℕ) → a ≤ i → f i ≡ g i)
    → map f (range_with_len a n) ≡ map g (range_with_len a n)
ticks-same f g a zero same = refl
ticks-same f g a (suc n) same =
    let here : a ≤ a = omega arith in
    rw (same a here)
    (ap (λ l. g a ∷ l) (ticks-same f g (a + 1) n
    (λ i from. let h : a ≤ i = omega arith in same i h)))

ticks-silent : (f : ℕ → Tick) (a n : ℕ) → ((i : ℕ) → i < a + n → f i ≡ Silent)
    → map f (range_with_len a n) ≡ silent n
ticks-silent f a zero dark = refl
ticks-silent f a (suc n) dark =
    let here : a < a + suc n = omega arith in
    rw (dark a here)
    (ap (λ l. Silent ∷ l) (ticks-silent f (a + 1) n
    (λ i below. let h : i < a + suc n = omega arith in dark i h)))

ticks-list : (f : ℕ → Tick) (a : ℕ) (x : List Tick)
    → ((i j : ℕ) → a + j ≡ i → j < length x → f i ≡ get_or x j Silent)
    → map f (range_with_len a (length x)) ≡ x
ticks-list f a [] shows = refl
ticks-list f a (t ∷ x) shows =
    let here : a + 0 ≡ a = omega arith in
    let some : 0 < length (t ∷ x) = omega arith in
    rw (shows a 0 here some)
    (ap (λ l. t ∷ l) (ticks-list f (a + 1) x
    (λ i j at within.
    let next : a + suc j ≡ i = omega arith in
    let few : suc j < length (t ∷ x) = omega arith in
    shows i (suc j) next few)))

ticks-shift : (f g : ℕ → Tick) (n a b m : ℕ) → n + a ≡ b → ((i j : ℕ) → n + i ≡ j → f j ≡ g i)
    → map f (range_with_len b m) ≡ map g (range_with_len a m)
ticks-shift f g n a b zero at same = refl
ticks-shift f g n a b (suc m) at same =
    let next : n + (a + 1) ≡ b + 1 = omega arith in
    rw (same a b at) (ap (λ l. g a ∷ l) (ticks-shift f g n (a + 1) (b + 1) m next same))

-- ---- a burst among others

outside : (a b i : ℕ) → (i < a) ⊎ (b ≤ i) → (nat_le a i && nat_lt i b) ≡ false
outside a b i h = grind arith

inside : (a b i : ℕ) → a ≤ i → i < b → (nat_le a i && nat_lt i b) ≡ true
inside a b i h k = grind arith

tick_at-outside : (d : Burst) (ds : List Burst) (i : ℕ) → (i < d.start) ⊎ (end_of d ≤ i)
    → tick_at (d ∷ ds) i ≡ tick_at ds i
unfolding tick_at
tick_at-outside d ds i out = rw (outside d.start (end_of d) i out) refl

tick_at-inside : (d : Burst) (ds : List Burst) (i : ℕ) → d.start ≤ i → i < end_of d
    → tick_at (d ∷ ds) i ≡ get_or d.body (i - d.start) Silent
unfolding tick_at
tick_at-inside d ds i from within = rw (inside d.start (end_of d) i from within) refl

module _ (cut : ℕ) where
  spread-earlier : (n k : ℕ) (ds : List Burst) → n ≤ k → AreSpread cut k ds → AreSpread cut n ds
  spread-earlier n k [] le spread = tt
  spread-earlier n k (d ∷ ds) le spread = let from : k ≤ d.start = spread.0 in
      (omega arith, spread.1, spread.2)

  spread-starts : (n : ℕ) (ds : List Burst) → AreSpread cut n ds → StartsFrom n ds
  spread-starts n [] spread = tt
  spread-starts n (d ∷ ds) spread = spread.0

  -- Before the first burst all ticks are silent.
  dark-before : (n i : ℕ) (ds : List Burst) → AreSpread cut n ds → i < n → tick_at ds i ≡ Silent
  dark-before n i [] spread before = tick_at-none i
  dark-before n i (d ∷ ds) spread before =
      let from : n ≤ d.start = spread.0 in
      let early : i < d.start = omega arith in
      tick_at-outside d ds i (inl early)
      ∙ dark-before (end_of d + cut) i ds spread.2 (omega arith)

  laid-are : (n k m : ℕ) (ds : List Burst) → n + k ≡ m → AreSpread cut n ds → EndBy m ds
      → AreBursts cut n (map (λ i. tick_at ds i) (range_with_len n k)) ds
  laid-are n k m [] here spread ends =
      let line : List Tick = map (λ i. tick_at [] i) (range_with_len n k) in
      let long : length line ≡ k = length-map-range_with_len (λ i. tick_at [] i) n k in
      ticks-silent (λ i. tick_at [] i) n k (λ i below. tick_at-none i)
      ∙ ap (λ j. silent j) (sym long)
  laid-are n k m (d ∷ ds) here spread ends =
      let f : ℕ → Tick = λ i. tick_at (d ∷ ds) i in
      let g : ℕ → Tick = λ i. tick_at ds i in
      let from : n ≤ d.start = spread.0 in
      let end : end_of d ≤ m = ends.0 in
      let gap : ℕ = d.start - n in
      let more : ℕ = m - end_of d in
      let rest : List Tick = map g (range_with_len (end_of d) more) in
      let all : gap + (length d.body + more) ≡ k = omega arith in
      let begins : n + gap ≡ d.start = omega arith in
      let next : end_of d + more ≡ m = omega arith in
      let apart : end_of d ≤ end_of d + cut = omega arith in
      let silence : map f (range_with_len n gap) ≡ silent gap =
      ticks-silent f n gap (λ i below.
      let early : i < d.start = omega arith in
      tick_at-outside d ds i (inl early)
      ∙ dark-before (end_of d + cut) i ds spread.2 (omega arith)) in
      let body : map f (range_with_len d.start (length d.body)) ≡ d.body =
      ticks-list f d.start d.body (λ i j at within.
      let place : i - d.start ≡ j = omega arith in
      tick_at-inside d ds i (omega arith) (omega arith) ∙ ap (λ p. get_or d.body p Silent) place) in
      let others : map f (range_with_len (end_of d) more) ≡ rest =
      ticks-same f g (end_of d) more (λ i past. tick_at-outside d ds i (inr past)) in (
        gap,
        rest,
        ticks-parts f n gap (length d.body + more) k d.start all begins
            ∙ (ap (λ x. x ++ map f (range_with_len d.start (length d.body + more))) silence
            ∙ ap (λ x. silent gap ++ x)
            (ticks-parts f d.start (length d.body) more (length d.body + more) (end_of d) refl refl
            ∙ (ap (λ x. x ++ map f (range_with_len (end_of d) more)) body
            ∙ ap (λ x. d.body ++ x) others))),
        sym begins,
        spread.1,
        spread-starts (end_of d + cut) ds spread.2,
        laid-are (end_of d) more m ds next
            (spread-earlier (end_of d) (end_of d + cut) ds apart spread.2) ends.1,
      )

  -- If bursts are spread over a line, they are the bursts of the line that they are laid on.
  pub bursts-laid : (m : ℕ) (ds : List Burst) → AreSpread cut 0 ds → EndBy m ds
      → bursts_from cut 0 (laid m ds) ≡ ds
  bursts-laid m ds spread ends =
      let here : 0 + m ≡ m = omega arith in
      bursts_from-only cut 0 (laid m ds) ds (laid-are 0 m m ds here spread ends)

-- ---- bursts that are laid n ticks later

module _ (n : ℕ) where
  later-dark : (ds : List Burst) (i : ℕ) → i < n → tick_at (map (later n) ds) i ≡ Silent
  later-dark [] i before = tick_at-none i
  later-dark (d ∷ ds) i before =
      let early : i < n + d.start = omega arith in
      tick_at-outside (later n d) (map (later n) ds) i (inl early) ∙ later-dark ds i before

  same_place : (a b i : ℕ) → (nat_le (n + a) (n + i) && nat_lt (n + i) (n + a + b))
      ≡ (nat_le a i && nat_lt i (a + b))
  same_place a b i = grind arith

  tick_at-later : (ds : List Burst) (i j : ℕ) → n + i ≡ j
      → tick_at (map (later n) ds) j ≡ tick_at ds i
  unfolding tick_at
  tick_at-later [] i j at = refl
  tick_at-later (d ∷ ds) i j at =
      let back : n + i - (n + d.start) ≡ i - d.start = omega arith in
      rw (sym at, same_place d.start (length d.body) i, back, tick_at-later ds i (n + i) refl) refl

  -- The line of bursts that are laid n ticks later is n silent ticks, and then the line of the
  -- bursts.
  pub laid-later : (m : ℕ) (ds : List Burst)
      → laid (n + m) (map (later n) ds) ≡ silent n ++ laid m ds
  laid-later m ds =
      let f : ℕ → Tick = λ i. tick_at (map (later n) ds) i in
      let g : ℕ → Tick = λ i. tick_at ds i in
      let here : n + 0 ≡ n = omega arith in
      let begins : 0 + n ≡ n = omega arith in
      ticks-parts f 0 n m (n + m) n refl begins
      ∙ (ap (λ x. x ++ map f (range_with_len n m))
      (ticks-silent f 0 n (λ i below. let before : i < n = omega arith in later-dark ds i before))
      ∙ ap (λ x. silent n ++ x) (ticks-shift f g n 0 n m here (λ i j at. tick_at-later ds i j at)))
