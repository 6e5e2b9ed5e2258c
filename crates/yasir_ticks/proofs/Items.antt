-- The items of lines, and how many marks are among them.
use Rattle.std.proofs.Common.{◌≡◌, ◌∙◌, ℕ, ◌+◌, zero, suc, List, [], ◌∷◌, ◌++◌, map, replicate}
use Rattle.std.proofs.Common.{Option, Some, None, refl, ap, sym, arith, append_assoc, option_map}
use Rattle.{std.specs.Option.option_and_then, yasir_ticks.specs.Reader.items_of_content}
use Rattle.yasir_ticks.specs.{Reader.marks_of_content, TickText.line_items, TickText.all_items}
use Rattle.yasir_ticks.specs.Ticks.{Item, marks_in, Item.tick, Item.mark}
use Rattle.yasir_ticks.specs.declared.place.Content.{Content, TheVariants.NoTick}
use Rattle.yasir_ticks.specs.declared.place.Content.TheVariants.{KeptBytes, SilentTicks, OneMark}
use Rattle.yasir_ticks.specs.declared.tick.Tick.TheVariants.{Silent, Byte}

pub marks_in-append : (a b : List Item) → marks_in (a ++ b) ≡ marks_in a + marks_in b
marks_in-append [] b = omega arith
marks_in-append (tick t ∷ a) b = marks_in-append a b
marks_in-append (mark ∷ a) b = omega (arith, marks_in-append a b)

pub marks_in-bytes : (bytes : List ℕ) → marks_in (map (λ b. tick (Byte b)) bytes) ≡ 0
marks_in-bytes [] = refl
marks_in-bytes (b ∷ bytes) = marks_in-bytes bytes

pub marks_in-silent : (n : ℕ) → marks_in (replicate n (tick Silent)) ≡ 0
marks_in-silent zero = refl
marks_in-silent (suc n) = marks_in-silent n

pub marks_in-content : (content : Content) (bytes : List ℕ)
    → marks_in (items_of_content content bytes) ≡ marks_of_content content
marks_in-content NoTick bytes = refl
marks_in-content KeptBytes bytes = marks_in-bytes bytes
marks_in-content (SilentTicks n) bytes = marks_in-silent n
marks_in-content OneMark bytes = refl

-- the items of some lines, given those of the first lines and those of the others
abbrev both : Option (List Item) → Option (List Item) → Option (List Item)
both first more = option_and_then (λ items. option_map (λ others. items ++ others) more) first

both_assoc : (a b c : Option (List Item)) → both a (both b c) ≡ both (both a b) c
both_assoc None b c = refl
both_assoc (Some a) None c = refl
both_assoc (Some a) (Some b) None = refl
both_assoc (Some a) (Some b) (Some c) = ap Some (sym (append_assoc a b c))

both_nil : (a : Option (List Item)) → a ≡ both (Some []) a
both_nil None = refl
both_nil (Some a) = refl

pub all_items-append : (a b : List (List ℕ)) → all_items (a ++ b) ≡ both (all_items a) (all_items b)
all_items-append [] b = both_nil (all_items b)
all_items-append (l ∷ ls) b =
    ap (both (line_items l)) (all_items-append ls b)
    ∙ both_assoc (line_items l) (all_items ls) (all_items b)

-- Holds if items are in two parts, those of the first lines and those of the others.
pub record Parts (first more : Option (List Item)) (items : List Item) : Type 0 where
  pub front : List Item
  pub back : List Item
  pub first_is : first ≡ Some front
  pub more_is : more ≡ Some back
  pub whole : items ≡ front ++ back

both_parts : (first more : Option (List Item)) (items : List Item) → both first more ≡ Some items
    → Parts first more items
both_parts None more items h = cc
both_parts (Some a) None items h = cc
both_parts (Some a) (Some b) items h = record {
  front = a;
  back = b;
  first_is = refl;
  more_is = refl;
  whole = cc;
}

pub all_items_parts : (a b : List (List ℕ)) (items : List Item) → all_items (a ++ b) ≡ Some items
    → Parts (all_items a) (all_items b) items
all_items_parts a b items h = both_parts (all_items a) (all_items b) items
    (sym (all_items-append a b) ∙ h)

pub line_items_parts : (l : List ℕ) (ls : List (List ℕ)) (items : List Item)
    → all_items (l ∷ ls) ≡ Some items → Parts (line_items l) (all_items ls) items
line_items_parts l ls items h = both_parts (line_items l) (all_items ls) items h

pub all_items_both : (a b : List (List ℕ)) (i j : List Item) → all_items a ≡ Some i
    → all_items b ≡ Some j → all_items (a ++ b) ≡ Some (i ++ j)
all_items_both a b i j p q = all_items-append a b ∙ rw (p, q) refl

pub all_items_cons : (l : List ℕ) (ls : List (List ℕ)) (i j : List Item) → line_items l ≡ Some i
    → all_items ls ≡ Some j → all_items (l ∷ ls) ≡ Some (i ++ j)
all_items_cons l ls i j p q = rw (p, q) refl

-- n lines that are a mark each have n marks.
pub all_items-marks : (n : ℕ) → (items : List Item)
    × (all_items (replicate n (37 ∷ [])) ≡ Some items) × (marks_in items ≡ n)
unfolding line_items
all_items-marks zero = ([], refl, refl)
all_items-marks (suc n) =
    let rest = all_items-marks n in (
      mark ∷ rest.0,
      all_items_cons (37 ∷ []) (replicate n (37 ∷ [])) (mark ∷ []) rest.0 refl rest.1,
      ap suc rest.2,
    )
