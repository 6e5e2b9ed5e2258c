-- A recording in an input has no more ticks than the input.
use Rattle.std.proofs.Common.{ℕ, zero, suc, ◌≤◌, List, [], ◌∷◌, length, arith}
use Rattle.session_lists.specs.Parts.{part}
use Rattle.yasir_ticks.specs.Ticks.{Item, ticks_in, Item.tick, Item.mark}

pub part-short : (n : ℕ) (items : List Item) → length (part n items) ≤ length (ticks_in items)
part-short n [] = omega arith
part-short zero (tick t ∷ items) = let few = part-short zero items in omega (arith, few)
part-short zero (mark ∷ items) = omega arith
part-short (suc n) (tick t ∷ items) = let few = part-short (suc n) items in omega (arith, few)
part-short (suc n) (mark ∷ items) = let few = part-short n items in omega (arith, few)
