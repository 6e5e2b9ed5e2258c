-- A right text represents one list of items, which begins with the items of each beginning of it.
use Rattle.std.proofs.Common.{◌≡◌, ◌∙◌, ℕ, List, [], ◌∷◌, ◌++◌, Some, ap, sym}
use Rattle.std.specs.{List.flat_map, Prelude.unwrap_or}
use Rattle.yasir_ticks.proofs.Items.{all_items_parts, line_items_parts}
use Rattle.yasir_ticks.proofs.Lines.{joined, all_lines, all_lines-append}
use Rattle.yasir_ticks.specs.TickText.{lines_of, line_items, all_items, ended_items, IsTickText}
use Rattle.yasir_ticks.specs.Ticks.{Item}

-- If all lines have a right form, they represent the items of each of them in turn.
flat-all_items : (ls : List (List ℕ)) (items : List Item) → all_items ls ≡ Some items
    → flat_map (λ l. unwrap_or (line_items l) []) ls ≡ items
flat-all_items [] items h = cc
flat-all_items (l ∷ ls) items h =
    let parts = line_items_parts l ls items h in
    let rest : flat_map (λ l. unwrap_or (line_items l) []) ls ≡ parts.back =
    flat-all_items ls parts.back parts.more_is in
    ap (λ o. unwrap_or o [] ++ flat_map (λ l. unwrap_or (line_items l) []) ls) parts.first_is
    ∙ ap (λ r. parts.front ++ r) rest ∙ sym parts.whole

-- The items of a right text begin with those of the lines that a beginning of it has ended.
pub ended_items-begin : (marks : ℕ) (x y : List ℕ) (items : List Item)
    → IsTickText marks (x ++ y) items → (more : List Item) × (items ≡ ended_items x ++ more)
ended_items-begin marks x y items right =
    let parts = all_items_parts (lines_of x).ended (joined (lines_of x).last (all_lines y)) items
    (sym (ap all_items (all_lines-append x y)) ∙ right.lines) in (
      parts.back,
      parts.whole ∙ ap (λ l. l ++ parts.back)
          (sym (flat-all_items (lines_of x).ended parts.front parts.first_is)),
    )

-- A text represents only one list of items.
pub IsTickText-one : (marks : ℕ) (text : List ℕ) (items others : List Item)
    → IsTickText marks text items → IsTickText marks text others → items ≡ others
IsTickText-one marks text items others right other = let both = sym right.lines ∙ other.lines in cc
