-- The parts of some items that the ticks of a run follow.
use Rattle.std.proofs.Common.{◌≡◌, ◌∙◌, ◌≤◌, ℕ, zero, suc, List, [], ◌∷◌, ◌++◌, map, take, refl, ap}
use Rattle.std.proofs.{Common.sym, Common.append-nil, Common.arith, lemmas.List.take-map}
use Rattle.session_lists.specs.Parts.{part}
use Rattle.session_lists.specs.ListPlaces.{place_after}
use Rattle.yasir_ticks.proofs.TickRuns.{items_of_ticks}
use Rattle.yasir_ticks.specs.TickRun.{run_ticks, run_items}
use Rattle.yasir_ticks.specs.Ticks.{Item, marks_in, silent, Item.tick, Item.mark}
use Rattle.yasir_ticks.specs.declared.{tick.Tick.Tick, tick_run.TickRun.TickRun}
use Rattle.session_lists.specs.declared.tick_lists.Place.TheVariants as place
use Rattle.session_lists.specs.SessionLists.{link_of_lists, rest_after}
use Rattle.session_lists.proofs.Parting.{marks-mark, part-mark, place-none}

part-all : (ticks : List Tick) → part 0 (map tick ticks) ≡ ticks
part-all [] = refl
part-all (t ∷ ticks) = ap (λ l. t ∷ l) (part-all ticks)

part-no : (n : ℕ) (ticks : List Tick) → part (suc n) (map tick ticks) ≡ []
part-no n [] = refl
part-no n (t ∷ ticks) = part-no n ticks

-- Ticks that follow some items are added to the part after the last mark.
run-here : (n : ℕ) (items : List Item) (ticks : List Tick) → marks_in items ≡ n
    → part n (items ++ map tick ticks) ≡ part n items ++ ticks
run-here zero [] ticks marks = part-all ticks
run-here (suc n) [] ticks marks = cc
run-here zero (tick u ∷ items) ticks marks = ap (λ l. u ∷ l) (run-here zero items ticks marks)
run-here (suc n) (tick u ∷ items) ticks marks = run-here (suc n) items ticks marks
run-here zero (mark ∷ items) ticks marks = cc
run-here (suc n) (mark ∷ items) ticks marks = run-here n items ticks (omega arith)

-- Ticks that follow some items aren't added to any part before the last mark, nor to one that
-- hasn't begun.
run-there : (n : ℕ) (items : List Item) (ticks : List Tick) → (marks_in items ≡ n → ⊥)
    → part n (items ++ map tick ticks) ≡ part n items
run-there zero [] ticks differ = absurd (differ refl)
run-there (suc n) [] ticks differ = part-no n ticks
run-there zero (tick u ∷ items) ticks differ = ap (λ l. u ∷ l) (run-there zero items ticks differ)
run-there (suc n) (tick u ∷ items) ticks differ = run-there (suc n) items ticks differ
run-there zero (mark ∷ items) ticks differ = refl
run-there (suc n) (mark ∷ items) ticks differ =
    run-there n items ticks (λ same. differ (ap suc same))

-- A part that hasn't begun is empty.
pub part-empty : (n : ℕ) (items : List Item) → suc (marks_in items) ≤ n → part n items ≡ []
part-empty zero items few = absurd (omega (arith, few))
part-empty (suc n) [] few = refl
part-empty (suc n) (tick u ∷ items) few = part-empty (suc n) items few
part-empty (suc n) (mark ∷ items) few = part-empty n items (omega (arith, few))

no-mark : (ticks : List Tick) → marks_in (map tick ticks) ≡ 0
no-mark [] = refl
no-mark (t ∷ ticks) = no-mark ticks

marks-ticks : (items : List Item) (ticks : List Tick)
    → marks_in (items ++ map tick ticks) ≡ marks_in items
marks-ticks [] ticks = no-mark ticks
marks-ticks (tick u ∷ items) ticks = marks-ticks items ticks
marks-ticks (mark ∷ items) ticks = ap suc (marks-ticks items ticks)

-- The first items of a run are its first ticks.
front-items : (run : TickRun) (n : ℕ) → take n (run_items run) ≡ map tick (take n (run_ticks run))
front-items run n = ap (take n) (items_of_ticks run) ∙ take-map tick n (run_ticks run)

module _ (items : List Item) (run : TickRun) (k : ℕ) where
  pub front-here : (n : ℕ) → marks_in items ≡ n
      → part n (items ++ take k (run_items run)) ≡ part n items ++ take k (run_ticks run)
  front-here n marks = ap (λ l. part n (items ++ l)) (front-items run k)
      ∙ run-here n items (take k (run_ticks run)) marks

  pub front-there : (n : ℕ) → (marks_in items ≡ n → ⊥)
      → part n (items ++ take k (run_items run)) ≡ part n items
  front-there n differ = ap (λ l. part n (items ++ l)) (front-items run k)
      ∙ run-there n items (take k (run_ticks run)) differ

  pub front-marks : marks_in (items ++ take k (run_items run)) ≡ marks_in items
  front-marks = ap (λ l. marks_in (items ++ l)) (front-items run k)
      ∙ marks-ticks items (take k (run_ticks run))

-- ---- how many marks there were, by the place

pub marks-first : (m : ℕ) → place.First ≡ place_after m → m ≡ 0
marks-first zero is = refl
marks-first (suc zero) is = cc
marks-first (suc (suc zero)) is = cc
marks-first (suc (suc (suc k))) is = let none = is ∙ place-none k in cc

pub marks-second : (m : ℕ) → place.Second ≡ place_after m → m ≡ 1
marks-second zero is = cc
marks-second (suc zero) is = refl
marks-second (suc (suc zero)) is = cc
marks-second (suc (suc (suc k))) is = let none = is ∙ place-none k in cc

pub marks-third : (m : ℕ) → place.Third ≡ place_after m → m ≡ 2
marks-third zero is = cc
marks-third (suc zero) is = cc
marks-third (suc (suc zero)) is = refl
marks-third (suc (suc (suc k))) is = let none = is ∙ place-none k in cc

pub marks-many : (m : ℕ) → place.None ≡ place_after m → 3 ≤ m
marks-many zero is = cc
marks-many (suc zero) is = cc
marks-many (suc (suc zero)) is = cc
marks-many (suc (suc (suc k))) is = omega arith

-- ---- the link, and its silence

rest-same : (rest m : ℕ) → (m ≡ 1 → ⊥) → rest_after rest (suc m) ≡ rest_after rest m
rest-same rest zero differ = refl
rest-same rest (suc zero) differ = absurd (differ refl)
rest-same rest (suc (suc m)) differ = refl

module _ (rest : ℕ) (items : List Item) where
  link-open : marks_in items ≡ 1 → link_of_lists rest items ≡ part 1 items
  link-open one = ap (λ l. part 1 items ++ l) (ap (rest_after rest) one) ∙ append-nil (part 1 items)

  pub link-mark : (marks_in items ≡ 1 → ⊥) → link_of_lists rest (items ++ mark ∷ []) ≡ link_of_lists rest items
  link-mark differ =
      ap (λ l. l ++ rest_after rest (marks_in (items ++ mark ∷ []))) (part-mark 1 items)
      ∙ ap (λ l. part 1 items ++ l)
      (ap (rest_after rest) (marks-mark items) ∙ rest-same rest (marks_in items) differ)

  pub link-ends : marks_in items ≡ 1
      → link_of_lists rest (items ++ mark ∷ []) ≡ link_of_lists rest items ++ silent rest
  link-ends one =
      ap (λ l. l ++ rest_after rest (marks_in (items ++ mark ∷ []))) (part-mark 1 items)
      ∙ ap (λ l. part 1 items ++ l)
      (ap (rest_after rest) (marks-mark items ∙ ap suc one))
      ∙ ap (λ l. l ++ silent rest) (sym (link-open one))

  module _ (run : TickRun) (k : ℕ) where
    abbrev now : List Item
    now = items ++ take k (run_items run)

    pub link-there : (marks_in items ≡ 1 → ⊥) → link_of_lists rest now ≡ link_of_lists rest items
    link-there differ =
        ap (λ l. l ++ rest_after rest (marks_in now)) (front-there items run k 1 differ)
        ∙ ap (λ m. part 1 items ++ rest_after rest m) (front-marks items run k)

    pub link-here : marks_in items ≡ 1
        → link_of_lists rest now ≡ link_of_lists rest items ++ take k (run_ticks run)
    link-here one =
        ap (λ l. part 1 now ++ l) (ap (rest_after rest) (front-marks items run k ∙ one))
        ∙ append-nil (part 1 now)
        ∙ front-here items run k 1 one
        ∙ ap (λ l. l ++ take k (run_ticks run)) (sym (link-open one))
