-- The last burst of a line, as the line goes on by one tick.
use Rattle.frame_ending.specs.SoFar.{last_of, last_burst}
use Rattle.std.proofs.Common.{◌≡◌, ℕ, ◌+◌, ◌≤◌, nat_lt, cond, List, [], ◌∷◌, ◌++◌, length, refl}
use Rattle.std.proofs.Common.{arith, sym, ◌∙◌, ap, subst, ⊎_elim, length-append, Option, Some, None}
use Rattle.std.proofs.lemmas.Bool.{cases_lt, lt-ltb, le-ltb, cond-true, cond-false}
use Rattle.std.proofs.lemmas.List.{length-replicate}
use Rattle.yasir_ticks.proofs.BurstLaws.{alone, with_last, extended, extended-near, extended-far}
use Rattle.yasir_ticks.proofs.BurstLaws.{bursts_from-byte, bursts_from-silent}
use Rattle.yasir_ticks.proofs.BurstsOfLaws.{bursts_from-are}
use Rattle.yasir_ticks.specs.Bursts.{Burst, bursts_from, bursts, end_of}
use Rattle.yasir_ticks.specs.{BurstsOf.IsContiguous, BurstsOf.AreBursts, Ticks.silent}
use Rattle.yasir_ticks.specs.declared.tick.Tick.{Tick, TheVariants.Silent, TheVariants.Byte}

-- the last burst after one more byte at tick m
abbrev pub grown : ℕ → ℕ → Option Burst → Burst
grown m b None = alone m b
grown m b (Some d) = cond (nat_lt m (end_of d + 4)) (with_last d m b) (alone m b)

last_of-cons : (d : Burst) (ds : List Burst) (e : Burst) → last_of ds ≡ Some e
    → last_of (d ∷ ds) ≡ Some e
unfolding last_of
last_of-cons d [] e last = cc
last_of-cons d (c ∷ ds) e last = last

last_of-extended : (m b : ℕ) (ds : List Burst)
    → last_of (extended 4 m b ds) ≡ Some (grown m b (last_of ds))
unfolding last_of extended
last_of-extended m b [] = refl
last_of-extended m b (d ∷ []) =
    ⊎_elim
    (λ near. ap last_of (extended-near 4 m b d near)
    ∙ ap Some (sym (cond-true _ (with_last d m b) (alone m b) (lt-ltb m (end_of d + 4) near))))
    (λ far. ap last_of (extended-far 4 m b d far)
    ∙ ap Some (sym (cond-false _ (with_last d m b) (alone m b) (le-ltb m (end_of d + 4) far))))
    (cases_lt m (end_of d + 4))
last_of-extended m b (d ∷ e ∷ ds) =
    last_of-cons d (extended 4 m b (e ∷ ds)) (grown m b (last_of (e ∷ ds)))
    (last_of-extended m b (e ∷ ds))

pub last_burst-byte : (line : List Tick) (b : ℕ)
    → last_burst (line ++ Byte b ∷ []) ≡ Some (grown (length line) b (last_burst line))
last_burst-byte line b =
    let at : 0 + length line ≡ length line = omega arith in
    ap last_of (bursts_from-byte 4 0 (length line) b line at)
    ∙ last_of-extended (length line) b (bursts line)

pub last_burst-silent : (line : List Tick) → last_burst (line ++ Silent ∷ []) ≡ last_burst line
last_burst-silent line = ap last_of (bursts_from-silent 4 0 line)

pub last_burst-nil : last_burst [] ≡ None
unfolding bursts_from last_of
last_burst-nil = refl

-- Holds if a burst begins and ends with a byte, and ends within m ticks of the line.
pub record IsWithin (m : ℕ) (d : Burst) : Type 0 where
  pub contiguous : IsContiguous 4 d.body
  pub within : end_of d ≤ m

last_of-within : (n : ℕ) (line : List Tick) (ds : List Burst) (d : Burst) → AreBursts 4 n line ds
    → last_of ds ≡ Some d
    → IsWithin (n + length line) d
unfolding last_of
last_of-within n line [] d are last = cc
last_of-within n line (e ∷ []) d are last =
    let same : e ≡ d = cc in
    let begins : e.start ≡ n + are.0 = are.3 in
    let long : length line ≡ are.0 + (length e.body + length are.1) =
    ap length are.2 ∙ (length-append (silent are.0) (e.body ++ are.1)
    ∙ (ap (λ k. k + length (e.body ++ are.1)) (length-replicate are.0 Silent)
    ∙ ap (λ k. are.0 + k) (length-append e.body are.1))) in
    let P : Burst → Type 0 = λ x. IsWithin (n + length line) x in
    subst P same (record { contiguous = are.4; within = omega arith })
last_of-within n line (e ∷ c ∷ ds) d are last =
    let begins : e.start ≡ n + are.0 = are.3 in
    let long : length line ≡ are.0 + (length e.body + length are.1) =
    ap length are.2 ∙ (length-append (silent are.0) (e.body ++ are.1)
    ∙ (ap (λ k. k + length (e.body ++ are.1)) (length-replicate are.0 Silent)
    ∙ ap (λ k. are.0 + k) (length-append e.body are.1))) in
    let rest = last_of-within (end_of e) are.1 (c ∷ ds) d are.6 last in
    let end = rest.within in
    record { contiguous = rest.contiguous; within = omega arith }

pub last_burst-within : (line : List Tick) (d : Burst) → last_burst line ≡ Some d
    → IsWithin (length line) d
last_burst-within line d last =
    let within = last_of-within 0 line (bursts line) d (bursts_from-are 4 0 line) last in
    let end = within.within in
    record { contiguous = within.contiguous; within = omega arith }
