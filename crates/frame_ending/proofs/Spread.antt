-- The bursts of a line: each is contiguous, they are at least `cut` silent ticks apart, and they
-- end with the line at the latest.
use Rattle.std.proofs.Common.{◌≡◌, ◌∙◌, ℕ, ◌+◌, ◌≤◌, List, [], ◌∷◌, ◌++◌, length, ap, arith}
use Rattle.std.proofs.{Common.length-append, lemmas.List.length-replicate}
use Rattle.yasir_ticks.proofs.{BurstLaws.bursts_from-starts, BurstsOfLaws.bursts_from-are}
use Rattle.yasir_ticks.specs.Bursts.{Burst, bursts, bursts_from, end_of}
use Rattle.yasir_ticks.specs.BurstsOf.{IsContiguous, StartsFrom, AreBursts}
use Rattle.yasir_ticks.specs.{Ticks.silent, declared.TheConstants.T3_5_TICKS}
use Rattle.yasir_ticks.specs.declared.tick.Tick.{Tick, TheVariants.Silent}

-- Holds if these bursts are contiguous, start at tick n or later, and are at least `cut` silent
-- ticks apart.
abbrev pub AreSpread : ℕ → ℕ → List Burst → Type 0
AreSpread cut n [] = Unit {0}
AreSpread cut n (d ∷ ds) = (n ≤ d.start) × IsContiguous cut d.body
    × AreSpread cut (end_of d + cut) ds

-- Holds if each of these bursts ends by tick m.
abbrev pub EndBy : ℕ → List Burst → Type 0
EndBy m [] = Unit {0}
EndBy m (d ∷ ds) = (end_of d ≤ m) × EndBy m ds

module _ (cut : ℕ) where
  are-spread : (n k : ℕ) (l : List Tick) (ds : List Burst) → AreBursts cut n l ds → StartsFrom k ds
      → AreSpread cut k ds
  are-spread n k l [] are starts = tt
  are-spread n k l (d ∷ ds) are starts =
      (starts, are.4, are-spread (end_of d) (end_of d + cut) are.1 ds are.6 are.5)

  are-end : (n m : ℕ) (l : List Tick) (ds : List Burst) → AreBursts cut n l ds → n + length l ≡ m
      → EndBy m ds
  are-end n m l [] are here = tt
  are-end n m l (d ∷ ds) are here =
      let long : length l ≡ are.0 + (length d.body + length are.1) =
      ap length are.2 ∙ (length-append (silent are.0) (d.body ++ are.1)
      ∙ (ap (λ k. k + length (d.body ++ are.1)) (length-replicate are.0 Silent)
      ∙ ap (λ k. are.0 + k) (length-append d.body are.1))) in
      let start : d.start ≡ n + are.0 = are.3 in
      let next : end_of d + length are.1 ≡ m = omega arith in
      (omega arith, are-end (end_of d) m are.1 ds are.6 next)

  pub bursts_from-spread : (n : ℕ) (l : List Tick) → AreSpread cut n (bursts_from cut n l)
  bursts_from-spread n l =
      are-spread n n l (bursts_from cut n l) (bursts_from-are cut n l) (bursts_from-starts cut n l)

  pub bursts_from-end : (n m : ℕ) (l : List Tick) → n + length l ≡ m → EndBy m (bursts_from cut n l)
  bursts_from-end n m l here = are-end n m l (bursts_from cut n l) (bursts_from-are cut n l) here

pub bursts-spread : (line : List Tick) → AreSpread T3_5_TICKS 0 (bursts line)
bursts-spread line = bursts_from-spread T3_5_TICKS 0 line

pub bursts-end : (line : List Tick) → EndBy (length line) (bursts line)
bursts-end line =
    let here : 0 + length line ≡ length line = omega arith in
    bursts_from-end T3_5_TICKS 0 (length line) line here

-- ---- the last of these bursts

pub last_contiguous : (n : ℕ) (front : List Burst) (d : Burst)
    → AreSpread T3_5_TICKS n (front ++ d ∷ []) → IsContiguous T3_5_TICKS d.body
last_contiguous n [] d spread = spread.1
last_contiguous n (e ∷ front) d spread = last_contiguous (end_of e + T3_5_TICKS) front d spread.2

pub last_ends : (m : ℕ) (front : List Burst) (d : Burst) → EndBy m (front ++ d ∷ []) → end_of d ≤ m
last_ends m [] d ends = ends.0
last_ends m (e ∷ front) d ends = last_ends m front d ends.1
