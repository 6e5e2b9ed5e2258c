-- What is on a line before tick m, if bursts are laid on it, is the part of them that comes before
-- m.
use Rattle.frame_ending.proofs.Emissions.{tick_at-none, laid-same}
use Rattle.frame_ending.proofs.{LaidBursts.bursts-laid, Spread.AreSpread, Spread.EndBy}
use Rattle.frame_ending.specs.Laid.{tick_at, laid}
use Rattle.line_rules.specs.{Rules.Rules, RulesLaws.IsFramed}
use Rattle.spacer_laws.specs.SpacesOut.{IsSent, AreApart, within}
use Rattle.std.proofs.Common.{◌≡◌, ◌∙◌, ℕ, zero, suc, ◌+◌, ◌-◌, ◌<◌, ◌≤◌, List, [], ◌∷◌, length}
use Rattle.std.proofs.Common.{map, take, min, refl, sym, ap, subst, arith, cond, get_or, nat_le}
use Rattle.std.proofs.Common.{nat_lt, ◌&&◌, false, Bool, ⊎_elim}
use Rattle.std.proofs.lemmas.Bool.{cases_lt, lt-ltb, le-ltb}
use Rattle.std.proofs.lemmas.List.{length-take, get_or-take}
use Rattle.yasir_ticks.specs.Bursts.{Burst, bursts_from, end_of}
use Rattle.yasir_ticks.specs.BurstsOf.{IsContiguous, IsContiguous.one, IsContiguous.more}
use Rattle.yasir_ticks.specs.declared.tick.Tick.{Tick, TheVariants.Silent, TheVariants.Byte}

-- ---- bytes in a row

pub bytes-contiguous : (cut : ℕ) (x : List ℕ) → 0 < cut → 0 < length x
    → IsContiguous cut (map (λ b. Byte b) x)
bytes-contiguous cut [] wide some = absurd (omega arith)
bytes-contiguous cut (b ∷ []) wide some = one b
bytes-contiguous cut (b ∷ c ∷ x) wide some =
    more b 0 (map (λ d. Byte d) (c ∷ x)) wide (bytes-contiguous cut (c ∷ x) wide (omega arith))

take-bytes : (n : ℕ) (x : List ℕ)
    → take n (map (λ b. Byte b) x) ≡ map (λ b. Byte b) (take n x)
take-bytes zero x = refl
take-bytes (suc n) [] = refl
take-bytes (suc n) (b ∷ x) = ap (λ y. Byte b ∷ y) (take-bytes n x)

-- ---- tick by tick

cut-inside : (a n m i : ℕ) → i < m → a < m
    → (nat_le a i && nat_lt i (a + min (m - a) n)) ≡ (nat_le a i && nat_lt i (a + n))
cut-inside a n m i before begun = grind arith

-- Before tick m, a burst that is cut at m shows the same as the whole one.
cut-shows : (m i : ℕ) (d : Burst) (x y : List Burst) → i < m → d.start < m
    → tick_at x i ≡ tick_at y i
    → tick_at (record { start = d.start; body = take (m - d.start) d.body } ∷ x) i
    ≡ tick_at (d ∷ y) i
unfolding tick_at
cut-shows m i d x y before begun same =
    let long = length-take (m - d.start) d.body in
    let ends : (nat_le d.start i && nat_lt i (d.start + length (take (m - d.start) d.body)))
    ≡ (nat_le d.start i && nat_lt i (end_of d)) =
    ap (λ n. nat_le d.start i && nat_lt i (d.start + n)) long
    ∙ cut-inside d.start (length d.body) m i before begun in
    let here : i - d.start < m - d.start = omega arith in
    let test : Bool = nat_le d.start i && nat_lt i (end_of d) in
    let front : List Tick = take (m - d.start) d.body in
    ap (λ v. cond v (get_or front (i - d.start) Silent) (tick_at x i)) ends
    ∙ (ap (λ t. cond test t (tick_at x i))
    (get_or-take (m - d.start) d.body (i - d.start) Silent here)
    ∙ ap (λ t. cond test (get_or d.body (i - d.start) Silent) t) same)

before-start : (a b i : ℕ) → i < a → (nat_le a i && nat_lt i b) ≡ false
before-start a b i before = grind arith

before-one : (d : Burst) (ds : List Burst) (i : ℕ) → i < d.start
    → tick_at (d ∷ ds) i ≡ tick_at ds i
unfolding tick_at
before-one d ds i before = rw (before-start d.start (end_of d) i before) refl

pub within-begun : (m : ℕ) (d : Burst) (ds : List Burst) → d.start < m
    → within m (d ∷ ds)
    ≡ record { start = d.start; body = take (m - d.start) d.body } ∷ within m ds
within-begun m d ds begun = rw (lt-ltb d.start m begun) refl

within-none : (m : ℕ) (d : Burst) (ds : List Burst) → m ≤ d.start → within m (d ∷ ds) ≡ []
within-none m d ds yet = rw (le-ltb d.start m yet) refl

module _ (gap : ℕ) (wide : 0 < gap) (rules : Rules) (framed : IsFramed rules) where
  -- Before the first of these bursts begins, all is silent.
  dark : (n i : ℕ) (ds : List Burst) → AreApart rules gap n ds → i < n → tick_at ds i ≡ Silent
  dark n i [] apart before = tick_at-none i
  dark n i (d ∷ ds) apart before =
      let from : n ≤ d.start = apart.0 in
      before-one d ds i (omega arith) ∙ dark (end_of d + gap) i ds apart.2 (omega arith)

  tick_at-within : (m n i : ℕ) (ds : List Burst) → AreApart rules gap n ds → i < m
      → tick_at (within m ds) i ≡ tick_at ds i
  tick_at-within m n i [] apart before = refl
  tick_at-within m n i (d ∷ ds) apart before =
      ⊎_elim
      (λ begun. ap (λ x. tick_at x i) (within-begun m d ds begun)
      ∙ cut-shows m i d (within m ds) ds before begun
      (tick_at-within m (end_of d + gap) i ds apart.2 before))
      (λ yet. ap (λ x. tick_at x i) (within-none m d ds yet)
      ∙ (tick_at-none i ∙ sym (dark m i (d ∷ ds) (yet, apart.1, apart.2) before)))
      (cases_lt d.start m)

  -- The part of a burst that comes before tick m is contiguous.
  cut-contiguous : (cut m : ℕ) (d : Burst) → 0 < cut → d.start < m → IsSent rules d
      → IsContiguous cut (take (m - d.start) d.body)
  cut-contiguous cut m d some begun sent =
      let front : List ℕ = take (m - d.start) sent.frame in
      let byte = framed.some_byte sent.frame sent.framed in
      let count = length-take (m - d.start) sent.frame in
      let there : 0 < length front = grind arith in
      let P : List Tick → Type 0 = λ x. IsContiguous cut x in
      subst P (sym (ap (λ x. take (m - d.start) x) sent.is ∙ take-bytes (m - d.start) sent.frame))
      (bytes-contiguous cut front some there)

  within-spread : (cut m n k : ℕ) (ds : List Burst) → 0 < cut → cut ≤ gap → k ≤ n
      → AreApart rules gap n ds → AreSpread cut k (within m ds)
  within-spread cut m n k [] some near le apart = tt
  within-spread cut m n k (d ∷ ds) some near le apart =
      let P : List Burst → Type 0 = λ x. AreSpread cut k x in
      let from : n ≤ d.start = apart.0 in
      let count = length-take (m - d.start) d.body in
      let later : d.start + length (take (m - d.start) d.body) + cut ≤ end_of d + gap =
      grind arith in
      ⊎_elim
      (λ begun. subst P (sym (within-begun m d ds begun)) (
        omega arith,
        cut-contiguous cut m d some begun apart.1,
        within-spread cut m (end_of d + gap)
            (d.start + length (take (m - d.start) d.body) + cut) ds some near later apart.2,
      ))
      (λ yet. subst P (sym (within-none m d ds yet)) tt)
      (cases_lt d.start m)

  within-ends : (m : ℕ) (ds : List Burst) → EndBy m (within m ds)
  within-ends m [] = tt
  within-ends m (d ∷ ds) =
      let P : List Burst → Type 0 = λ x. EndBy m x in
      let count = length-take (m - d.start) d.body in
      ⊎_elim
      (λ begun. let end : d.start + length (take (m - d.start) d.body) ≤ m = grind arith in
      subst P (sym (within-begun m d ds begun)) (end, within-ends m ds))
      (λ yet. subst P (sym (within-none m d ds yet)) tt)
      (cases_lt d.start m)

  -- The bursts of a line on which these are laid are these, as far as they come before its end.
  pub laid-bursts : (cut m : ℕ) (ds : List Burst) → 0 < cut → cut ≤ gap → AreApart rules gap 0 ds
      → bursts_from cut 0 (laid m ds) ≡ within m ds
  laid-bursts cut m ds some near apart =
      let start : 0 ≤ 0 = omega arith in
      let same : laid m (within m ds) ≡ laid m ds =
      laid-same 0 m (λ i. tick_at (within m ds) i) (λ i. tick_at ds i)
      (λ i below. let before : i < m = omega arith in tick_at-within m 0 i ds apart before) in
      ap (λ l. bursts_from cut 0 l) (sym same)
      ∙ bursts-laid cut m (within m ds) (within-spread cut m 0 0 ds some near start apart)
      (within-ends m ds)

  -- Bursts that are `gap` apart are also spread by a cut of at most `gap`.
  pub apart-spread : (cut n k : ℕ) (ds : List Burst) → 0 < cut → cut ≤ gap → k ≤ n
      → AreApart rules gap n ds → AreSpread cut k ds
  apart-spread cut n k [] some near le apart = tt
  apart-spread cut n k (d ∷ ds) some near le apart =
      let from : n ≤ d.start = apart.0 in
      let sent = apart.1 in
      let byte = framed.some_byte sent.frame sent.framed in
      let P : List Tick → Type 0 = λ x. IsContiguous cut x in (
        omega arith,
        subst P (sym sent.is) (bytes-contiguous cut sent.frame some byte),
        apart-spread cut (end_of d + gap) (end_of d + cut) ds some near (omega arith) apart.2,
      )
