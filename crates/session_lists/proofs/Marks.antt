-- What more items change in two recordings.
use Rattle.session_lists.specs.Recordings.{lists_have_mark, before_mark, behind_mark}
use Rattle.std.proofs.Common.{◌≡◌, ℕ, zero, suc, true, List, [], ◌∷◌, ◌++◌, refl, ap}
use Rattle.tick_drive.proofs.ItemLaws.{ticks_in-append, ticks_in-mark}
use Rattle.tick_drive.specs.Items.{silent_items}
use Rattle.yasir_ticks.specs.Ticks.{Item, ticks_in, marks_in, silent, Item.tick, Item.mark}
use Rattle.yasir_ticks.specs.declared.tick.Tick.TheVariants.{Silent}

-- ---- one more mark

-- A mark at the end of some items is among them, and leaves the ticks before and after the first
-- mark as they were.

pub has_mark-mark : (items : List Item) → lists_have_mark (items ++ mark ∷ []) ≡ true
has_mark-mark (tick u ∷ items) = has_mark-mark items
has_mark-mark items = refl

pub before_mark-mark : (items : List Item) → before_mark (items ++ mark ∷ []) ≡ before_mark items
before_mark-mark (tick u ∷ items) = ap (λ l. u ∷ l) (before_mark-mark items)
before_mark-mark items = refl

pub behind_mark-mark : (items : List Item) → behind_mark (items ++ mark ∷ []) ≡ behind_mark items
behind_mark-mark [] = refl
behind_mark-mark (tick u ∷ items) = behind_mark-mark items
behind_mark-mark (mark ∷ items) = ticks_in-mark items

-- ---- several items after a mark

pub has_mark-some : (items : List Item) (n : ℕ) → marks_in items ≡ suc n → lists_have_mark items ≡ true
has_mark-some [] n some = cc
has_mark-some (tick t ∷ items) n some = has_mark-some items n some
has_mark-some (mark ∷ items) n some = refl

pub before_mark-more : (items more : List Item) → lists_have_mark items ≡ true
    → before_mark (items ++ more) ≡ before_mark items
before_mark-more [] more some = cc
before_mark-more (tick t ∷ items) more some = ap (λ l. t ∷ l) (before_mark-more items more some)
before_mark-more (mark ∷ items) more some = refl

pub behind_mark-more : (items more : List Item) → lists_have_mark items ≡ true
    → behind_mark (items ++ more) ≡ behind_mark items ++ ticks_in more
behind_mark-more [] more some = cc
behind_mark-more (tick t ∷ items) more some = behind_mark-more items more some
behind_mark-more (mark ∷ items) more some = ticks_in-append items more

pub ticks_in-silence : (n : ℕ) → ticks_in (silent_items n) ≡ silent n
ticks_in-silence zero = refl
ticks_in-silence (suc n) = ap (λ l. Silent ∷ l) (ticks_in-silence n)
