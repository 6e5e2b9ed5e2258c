-- The front of a run.
use Rattle.any_box.specs.declared.defined.DefinedBox.{Ghosts as DefinedBox}
use Rattle.any_box.specs.{Boxes.AnyTakesRun, declared.any_box.AnyBox.AnyBox}
use Rattle.std.proofs.Common.{◌≡◌, ◌∙◌, ℕ, ◌+◌, ◌≤◌, List, length, take, sym, ap, subst, arith}
use Rattle.std.proofs.lemmas.List.{length-take-le, length-take, take-take}
use Rattle.yasir_ticks.specs.declared.tick.Tick.{Tick}

module _ (n m : ℕ) (xs ys : List Tick) (front : ys ≡ take m xs) (within : n ≤ length ys) where
  pub within_whole : n ≤ length xs
  within_whole =
      let fewer = subst (λ l. n ≤ length l) front within in
      omega (arith, fewer, length-take m xs)

  same-front : take n ys ≡ take n xs
  same-front =
      let fewer = subst (λ l. n ≤ length l) front within in
      let less : n ≤ m = omega (arith, fewer, length-take m xs) in
      ap (take n) front ∙ take-take n m xs less

  pub takes_front : (boxes : DefinedBox AnyBox)
      (old new : AnyBox) (answer : List Tick)
      → AnyTakesRun boxes old new (take n ys) answer
      → AnyTakesRun boxes old new (take n xs) answer
  takes_front boxes old new answer takes =
      subst (λ run. AnyTakesRun boxes old new run answer) same-front takes

-- n ticks are taken, and so n are counted
pub taken_counted : (a b n : ℕ) (xs : List Tick) → a ≡ b + length (take n xs) → n ≤ length xs
    → a ≡ b + n
taken_counted a b n xs is within = is ∙ ap (λ k. b + k) (length-take-le n xs within)

pub counted_taken : (a b n : ℕ) (xs : List Tick) → a ≡ b + n → n ≤ length xs
    → a ≡ b + length (take n xs)
counted_taken a b n xs is within = is ∙ ap (λ k. b + k) (sym (length-take-le n xs within))
