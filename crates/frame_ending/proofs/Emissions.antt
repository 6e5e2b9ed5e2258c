-- Emissions on a line, tick by tick.
use Rattle.frame_ending.specs.Laid.{tick_at, laid}
use Rattle.std.proofs.Common.{◌≡◌, ◌&&◌, ℕ, zero, suc, ◌+◌, ◌-◌, ◌<◌, ◌≤◌, nat_lt, nat_le, true}
use Rattle.std.proofs.Common.{false, cond, List, [], ◌∷◌, ◌++◌, length, map, refl, sym, ap, arith}
use Rattle.std.proofs.{Common.get_or, Common.⊎_elim, lemmas.Bool.cases_lt, lemmas.List.get_or_past}
use Rattle.std.{proofs.lemmas.List.FromFn.map-range_with_len_more, specs.List.range_with_len}
use Rattle.yasir_ticks.specs.Bursts.{Burst, end_of}
use Rattle.yasir_ticks.specs.declared.tick.Tick.{Tick, TheVariants.Silent}

pub tick_at-none : (i : ℕ) → tick_at [] i ≡ Silent
unfolding tick_at
tick_at-none i = refl

-- If two lists of emissions have the same tick at a place, they still do with the same emissions
-- before them.
pub tick_at-front : (front a b : List Burst) (i : ℕ) → tick_at a i ≡ tick_at b i
    → tick_at (front ++ a) i ≡ tick_at (front ++ b) i
unfolding tick_at
tick_at-front [] a b i same = same
tick_at-front (d ∷ front) a b i same =
    ap (λ t. cond (nat_le d.start i && nat_lt i (end_of d)) (get_or d.body (i - d.start) Silent) t)
    (tick_at-front front a b i same)

pub laid-more : (m : ℕ) (emissions : List Burst)
    → laid (m + 1) emissions ≡ laid m emissions ++ tick_at emissions m ∷ []
laid-more m emissions = map-range_with_len_more (λ i. tick_at emissions i) 0 m m (omega arith)

pub laid-same : (a n : ℕ) (f g : ℕ → Tick) → ((i : ℕ) → i < a + n → f i ≡ g i)
    → map f (range_with_len a n) ≡ map g (range_with_len a n)
laid-same a zero f g same = refl
laid-same a (suc n) f g same =
    let first : a < a + suc n = omega arith in
    rw (same a first)
    (ap (λ l. g a ∷ l) (laid-same (a + 1) n f g
    (λ i below. let h : i < a + suc n = omega arith in same i h)))

-- For one emission there is silence before it, then its ticks, and then silence.
pub tick_at-before : (d : Burst) (i : ℕ) → i < d.start → tick_at (d ∷ []) i ≡ Silent
unfolding tick_at
tick_at-before d i before = rw (outside d.start (end_of d) i before) refl
  where
    outside : (a b i : ℕ) → i < a → (nat_le a i && nat_lt i b) ≡ false
    outside a b i h = grind arith

pub tick_at-from : (d : Burst) (i : ℕ) → d.start ≤ i
    → tick_at (d ∷ []) i ≡ get_or d.body (i - d.start) Silent
unfolding tick_at
tick_at-from d i from =
    ⊎_elim
    (λ within. rw (inside d.start (end_of d) i from within) refl)
    (λ past. let beyond : length d.body ≤ i - d.start = omega arith in
    rw (after d.start (end_of d) i past) (sym (get_or_past d.body (i - d.start) Silent beyond)))
    (cases_lt i (end_of d))
  where
    inside : (a b i : ℕ) → a ≤ i → i < b → (nat_le a i && nat_lt i b) ≡ true
    inside a b i h k = grind arith

    after : (a b i : ℕ) → b ≤ i → (nat_le a i && nat_lt i b) ≡ false
    after a b i h = grind arith
