-- A text after whole lines.
use Rattle.line_commands.specs.{Counted.capped, Lines.AreWholeLines}
use Rattle.std.proofs.Common.{◌≡◌, ◌∙◌, ℕ, ◌+◌, ◌-◌, List, [], ◌∷◌, ◌++◌, length, Some, refl, ap}
use Rattle.std.proofs.Common.{sym, subst, arith, append-nil, append_assoc, length-append}
use Rattle.std.{proofs.lemmas.Grind.flat_map-append, specs.List.flat_map, specs.Prelude.unwrap_or}
use Rattle.yasir_ticks.proofs.Items.{marks_in-append, all_items_both, all_items_parts}
use Rattle.yasir_ticks.proofs.Lines.{behind, lines_of-append}
use Rattle.yasir_ticks.specs.TickText.{Lines, lines_of, line_items, all_items, ended_items}
use Rattle.yasir_ticks.specs.TickText.{IsTickText, BeginsTickText, IsRefusedAfter, line_after}
use Rattle.yasir_ticks.specs.TickText.{fault_after, fault_at_end, fault_in_line}
use Rattle.yasir_ticks.specs.Ticks.{Item, marks_in}

joins : (l : Lines) (ls : List (List ℕ)) (last : List ℕ) → l.last ≡ []
    → behind l ls last ≡ record { ended = l.ended ++ ls; last = last }
joins l [] last e = rw (e, append-nil l.ended) refl
joins l (k ∷ ls) last e = rw e refl

pub lines_behind : (whole part : List ℕ) → (lines_of whole).last ≡ []
    → lines_of (whole ++ part)
    ≡ record { ended = (lines_of whole).ended ++ (lines_of part).ended; last = (lines_of part).last }
lines_behind whole part closed = lines_of-append whole part
    ∙ joins (lines_of whole) (lines_of part).ended (lines_of part).last closed

abbrev pub items_in : Lines → List Item
items_in lines = flat_map (λ l. unwrap_or (line_items l) []) lines.ended

pub ended_behind : (whole part : List ℕ) → (lines_of whole).last ≡ []
    → ended_items (whole ++ part) ≡ ended_items whole ++ ended_items part
ended_behind whole part closed = ap items_in (lines_behind whole part closed)
    ∙ flat_map-append (λ l. unwrap_or (line_items l) []) (lines_of whole).ended (lines_of part).ended

pub line_behind : (whole part : List ℕ) → (lines_of whole).last ≡ []
    → line_after (whole ++ part) ≡ line_after whole + (line_after part - 1)
line_behind whole part closed =
    let size : length (lines_of (whole ++ part)).ended
    ≡ length (lines_of whole).ended + length (lines_of part).ended =
    ap (λ (l : Lines). length l.ended) (lines_behind whole part closed)
    ∙ length-append (lines_of whole).ended (lines_of part).ended in
    omega (arith, size)

pub capped_then : (a b : ℕ) → capped (capped a + b) ≡ capped (a + b)
capped_then a b = omega arith

pub text_behind : (whole part : List ℕ) (items : List Item) → AreWholeLines whole
    → IsTickText 0 part items → IsTickText 0 (whole ++ part) (ended_items whole ++ items)
text_behind whole part items front text = record {
  lines = ap (λ (l : Lines). all_items (l.ended ++ l.last ∷ []))
      (lines_behind whole part front.closed)
      ∙ (ap all_items (append_assoc (lines_of whole).ended (lines_of part).ended
      ((lines_of part).last ∷ []))
      ∙ all_items_both (lines_of whole).ended ((lines_of part).ended ++ (lines_of part).last ∷ [])
      (ended_items whole) items front.right text.lines);
  marked = marks_in-append (ended_items whole) items ∙ omega (arith, front.unmarked, text.marked);
}

pub text_front : (whole part : List ℕ) (items : List Item) → AreWholeLines whole
    → IsTickText 0 (whole ++ part) items → (own : List Item) × IsTickText 0 part own
text_front whole part items front text =
    let all : all_items ((lines_of whole).ended
    ++ ((lines_of part).ended ++ (lines_of part).last ∷ [])) ≡ Some items =
    ap all_items (sym (append_assoc (lines_of whole).ended (lines_of part).ended
    ((lines_of part).last ∷ [])))
    ∙ (ap (λ (l : Lines). all_items (l.ended ++ l.last ∷ []))
    (sym (lines_behind whole part front.closed)) ∙ text.lines) in
    let parts = all_items_parts (lines_of whole).ended
    ((lines_of part).ended ++ (lines_of part).last ∷ []) items all in
    let marks : marks_in parts.front + marks_in parts.back ≡ 0 =
    sym (marks_in-append parts.front parts.back) ∙ (ap marks_in (sym parts.whole) ∙ text.marked) in (
      parts.back,
      record { lines = parts.more_is; marked = omega (arith, marks) },
    )

pub begins_behind : (whole part : List ℕ) → AreWholeLines whole → BeginsTickText 0 part
    → BeginsTickText 0 (whole ++ part)
begins_behind whole part front begins = (
  begins.0,
  ended_items whole ++ begins.1,
  subst (λ t. IsTickText 0 t (ended_items whole ++ begins.1))
      (sym (append_assoc whole part begins.0))
      (text_behind whole (part ++ begins.0) begins.1 front begins.2),
)

pub begins_front : (whole part : List ℕ) → AreWholeLines whole → BeginsTickText 0 (whole ++ part)
    → BeginsTickText 0 part
begins_front whole part front begins =
    let own = text_front whole (part ++ begins.0) begins.1 front
    (subst (λ t. IsTickText 0 t begins.1) (append_assoc whole part begins.0) begins.2) in
    (begins.0, own.0, own.1)

pub refused_behind : (whole part : List ℕ) (byte : ℕ) → AreWholeLines whole
    → IsRefusedAfter 0 part byte → IsRefusedAfter 0 (whole ++ part) byte
refused_behind whole part byte front refused = record {
  begins = begins_behind whole part front refused.begins;
  refused = λ begins. refused.refused (begins_front whole (part ++ byte ∷ []) front
      (subst (BeginsTickText 0) (append_assoc whole part (byte ∷ [])) begins));
}

pub fault_behind : (whole part : List ℕ) (byte : ℕ) → (lines_of whole).last ≡ []
    → fault_after (whole ++ part) byte ≡ fault_after part byte
fault_behind whole part byte closed =
    ap (λ (l : Lines). fault_in_line l.last (Some byte)) (lines_behind whole part closed)

pub end_behind : (whole part : List ℕ) → (lines_of whole).last ≡ []
    → fault_at_end (whole ++ part) ≡ fault_at_end part
end_behind whole part closed =
    rw (ap (λ (l : Lines). l.last) (lines_behind whole part closed)) refl

-- Whole lines, and after them lines without a mark, are whole lines.
pub whole_then : (whole part : List ℕ) → AreWholeLines whole → (lines_of part).last ≡ []
    → all_items (lines_of part).ended ≡ Some (ended_items part)
    → marks_in (ended_items part) ≡ 0 → AreWholeLines (whole ++ part)
whole_then whole part front closed right unmarked =
    let lines = lines_behind whole part front.closed in
    let items = ended_behind whole part front.closed in
    record {
      closed = ap (λ (l : Lines). l.last) lines ∙ closed;
      right = ap (λ (l : Lines). all_items l.ended) lines
          ∙ (all_items_both (lines_of whole).ended (lines_of part).ended (ended_items whole)
          (ended_items part) front.right right ∙ ap Some (sym items));
      unmarked = ap marks_in items ∙ (marks_in-append (ended_items whole) (ended_items part)
          ∙ omega (arith, front.unmarked, unmarked));
    }
