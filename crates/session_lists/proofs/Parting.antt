-- How the parts of some items change if one item more follows.
use Rattle.std.proofs.Common.{◌≡◌, ℕ, zero, suc, List, [], ◌∷◌, ◌++◌, refl, ap, arith}
use Rattle.session_lists.specs.Parts.{part}
use Rattle.session_lists.specs.ListPlaces.{place_behind, place_after}
use Rattle.yasir_ticks.specs.Ticks.{Item, marks_in, Item.tick, Item.mark}
use Rattle.yasir_ticks.specs.declared.tick.Tick.{Tick}
use Rattle.session_lists.specs.declared.tick_lists.Place.TheVariants as place

pub marks-tick : (items : List Item) (t : Tick) → marks_in (items ++ tick t ∷ []) ≡ marks_in items
marks-tick [] t = refl
marks-tick (tick u ∷ items) t = marks-tick items t
marks-tick (mark ∷ items) t = ap suc (marks-tick items t)

pub marks-mark : (items : List Item) → marks_in (items ++ mark ∷ []) ≡ suc (marks_in items)
marks-mark [] = refl
marks-mark (tick u ∷ items) = marks-mark items
marks-mark (mark ∷ items) = ap suc (marks-mark items)

-- A tick after `n` marks is added to part `n`.
pub part-here : (n : ℕ) (items : List Item) (t : Tick) → marks_in items ≡ n
    → part n (items ++ tick t ∷ []) ≡ part n items ++ t ∷ []
part-here zero [] t marks = refl
part-here (suc n) [] t marks = cc
part-here zero (tick u ∷ items) t marks = ap (λ l. u ∷ l) (part-here zero items t marks)
part-here (suc n) (tick u ∷ items) t marks = part-here (suc n) items t marks
part-here zero (mark ∷ items) t marks = cc
part-here (suc n) (mark ∷ items) t marks = part-here n items t (omega arith)

-- A tick changes no part whose number isn't that of the marks before it.
pub part-there : (n : ℕ) (items : List Item) (t : Tick) → (marks_in items ≡ n → ⊥)
    → part n (items ++ tick t ∷ []) ≡ part n items
part-there zero [] t differ = absurd (differ refl)
part-there (suc n) [] t differ = refl
part-there zero (tick u ∷ items) t differ = ap (λ l. u ∷ l) (part-there zero items t differ)
part-there (suc n) (tick u ∷ items) t differ = part-there (suc n) items t differ
part-there zero (mark ∷ items) t differ = refl
part-there (suc n) (mark ∷ items) t differ = part-there n items t (λ same. differ (ap suc same))

-- A mark changes no part.
pub part-mark : (n : ℕ) (items : List Item) → part n (items ++ mark ∷ []) ≡ part n items
part-mark (suc n) [] = refl
part-mark zero (tick u ∷ items) = ap (λ l. u ∷ l) (part-mark zero items)
part-mark (suc n) (tick u ∷ items) = part-mark (suc n) items
part-mark (suc n) (mark ∷ items) = part-mark n items
part-mark zero items = refl

-- After three marks or more a tick belongs to none of the lists.
pub place-none : (k : ℕ) → place_after (suc (suc (suc k))) ≡ place.None
place-none zero = refl
place-none (suc k) = ap place_behind (place-none k)
