-- Two recordings in an input are the parts before and behind its only mark.
use Rattle.session_lists.specs.{Parts.part, Recordings.before_mark, Recordings.behind_mark}
use Rattle.std.proofs.Common.{◌≡◌, ◌∙◌, ◌+◌, ◌≤◌, ℕ, List, [], ◌∷◌, length, Option, refl, sym, ap, arith, subst}
use Rattle.std.proofs.Common.{append-nil}
use Rattle.tick_drive.specs.Input.{IsWhole, AreFew, max_ticks}
use Rattle.yasir_ticks.specs.Ticks.{Item, ticks_in, marks_in, Item.tick, Item.mark}

pub before-is : (items : List Item) → before_mark items ≡ part 0 items
before-is [] = refl
before-is (tick t ∷ items) = ap (λ l. t ∷ l) (before-is items)
before-is (mark ∷ items) = refl

none-behind : (items : List Item) → marks_in items ≡ 0 → ticks_in items ≡ part 0 items
none-behind [] none = refl
none-behind (tick t ∷ items) none = ap (λ l. t ∷ l) (none-behind items none)
none-behind (mark ∷ items) none = cc

behind-is : (items : List Item) → marks_in items ≡ 1 → behind_mark items ≡ part 1 items
behind-is [] one = refl
behind-is (tick t ∷ items) one = behind-is items one
behind-is (mark ∷ items) one = none-behind items (omega (arith, one))

part-short : (items : List Item) → length (part 0 items) ≤ length (ticks_in items)
part-short [] = omega arith
part-short (tick t ∷ items) = omega (arith, part-short items)
part-short (mark ∷ items) = omega arith

parts-short : (items : List Item)
    → length (part 0 items) + length (part 1 items) ≤ length (ticks_in items)
parts-short [] = omega arith
parts-short (tick t ∷ items) = omega (arith, parts-short items)
parts-short (mark ∷ items) = omega (arith, part-short items)

module _ (before now : Option (List ℕ)) (items : List Item) (whole : IsWhole 1 0 before now items) where
  told-is : whole.told ≡ items
  told-is = sym (whole.are ∙ append-nil whole.told)

  pub behind-whole : behind_mark items ≡ part 1 items
  behind-whole = behind-is items (ap marks_in (sym told-is) ∙ whole.right.marked)

  pub parts-few : length (part 0 items) + length (part 1 items) ≤ max_ticks
  parts-few =
      let few : AreFew items = subst AreFew told-is whole.few in
      omega (arith, few, parts-short items)
