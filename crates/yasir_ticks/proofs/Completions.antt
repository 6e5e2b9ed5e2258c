-- How a text can go on if no byte of it is refused.
use Rattle.std.proofs.Common.{◌≡◌, ◌∙◌, ℕ, ◌+◌, ◌*◌, ◌<◌, List, [], ◌∷◌, ◌++◌, length, replicate}
use Rattle.std.proofs.Common.{Some, refl, ap, sym, arith, append_assoc, append-nil}
use Rattle.yasir_ticks.proofs.Items.{marks_in-append, marks_in-content, all_items_both}
use Rattle.yasir_ticks.proofs.{Items.all_items_cons, Items.all_items-marks, Lines.all_lines}
use Rattle.yasir_ticks.proofs.Lines.{joined, all_lines-append, mark_lines, all_lines-marks}
use Rattle.yasir_ticks.proofs.Steps.{closes_start, closes_comment, closes_pairs, closes_number}
use Rattle.yasir_ticks.proofs.Steps.{closes_percent, closes_returned, accepts_high, accepts_low}
use Rattle.yasir_ticks.specs.Reader.{Reads, items_of_content, marks_at, IsAt}
use Rattle.yasir_ticks.specs.ReaderStep.{Closes}
use Rattle.yasir_ticks.specs.TickText.{lines_of, line_items, all_items, ended_items, BeginsTickText}
use Rattle.yasir_ticks.specs.Ticks.{Item, marks_in}
use Rattle.yasir_ticks.specs.declared.place.Content.{Content, TheVariants.NoTick}
use Rattle.yasir_ticks.specs.declared.place.Content.TheVariants.{KeptBytes, SilentTicks, OneMark}
use Rattle.yasir_ticks.specs.declared.place.Place.{Place, TheVariants.Start}
use Rattle.yasir_ticks.specs.declared.place.Place.TheVariants.{Comment, Pairs, HalfPair, Minus}
use Rattle.yasir_ticks.specs.declared.place.Place.TheVariants.{Number, Percent, Returned, Refused}

-- how a line goes on to one of a right form, with `marks` marks
pub record Completion (marks : ℕ) (line : List ℕ) : Type 0 where
  pub more : List ℕ
  pub items : List Item
  pub single : lines_of more ≡ record { ended = []; last = more }
  pub stands : line_items (line ++ more) ≡ Some items
  pub marked : marks_in items ≡ marks

completes : (place : Place) (bytes line : List ℕ) (content : Content) → Closes place bytes content
    → Reads place bytes line → Completion (marks_at place) line
unfolding lines_of
completes place bytes line content c r = record {
  more = [];
  items = items_of_content content bytes;
  single = refl;
  stands = ap line_items (append-nil line) ∙ c.stands line r;
  marked = marks_in-content content bytes ∙ c.marked;
}

completes_zero : (line : List ℕ) → Completion 0 (line ++ 48 ∷ []) → Completion 0 line
unfolding lines_of
completes_zero line c = record {
  more = 48 ∷ c.more;
  items = c.items;
  single = rw c.single refl;
  stands = ap line_items (sym (append_assoc line (48 ∷ []) c.more)) ∙ c.stands;
  marked = c.marked;
}

completes_half : (high : ℕ) (bytes line : List ℕ) → Reads (HalfPair high) bytes line
    → Completion 0 line
completes_half high bytes line r =
    completes_zero line (completes Pairs (bytes ++ (high * 16 + 0) ∷ []) (line ++ 48 ∷ []) KeptBytes
    (closes_pairs (bytes ++ (high * 16 + 0) ∷ []) (some bytes))
    ((accepts_low bytes 0 48 high 0 refl).reads (λ e. absurd (omega arith)) line r))
  where
    some : (bytes : List ℕ) → 0 < length (bytes ++ (high * 16 + 0) ∷ [])
    some [] = omega arith
    some (b ∷ bytes) = omega arith

completes_minus : (line : List ℕ) → line ≡ 45 ∷ [] → Completion 0 line
unfolding lines_of line_items
completes_minus line r = record {
  more = 49 ∷ [];
  items = items_of_content (SilentTicks 1) [];
  single = refl;
  stands = rw r refl;
  marked = refl;
}

pub completion : (place : Place) (bytes line : List ℕ) → Reads place bytes line
    → Completion (marks_at place) line
completion Start bytes line r = completes Start bytes line NoTick (closes_start bytes) r
completion (Comment n) bytes line r = completes (Comment n) bytes line NoTick
    (closes_comment n bytes) r
completion Pairs [] line r =
    completes_zero line (completes_half 0 [] (line ++ 48 ∷ [])
    ((accepts_high [] 0 48 0 refl (omega arith)).reads (λ e. absurd (omega arith)) line r))
completion Pairs (b ∷ bytes) line r = completes Pairs (b ∷ bytes) line KeptBytes
    (closes_pairs (b ∷ bytes) (omega arith)) r
completion (HalfPair high) bytes line r = completes_half high bytes line r
completion Minus bytes line r = completes_minus line r
completion (Number n) bytes line r = completes (Number n) bytes line (SilentTicks n)
    (closes_number n bytes) r
completion Percent bytes line r = completes Percent bytes line OneMark (closes_percent bytes) r
completion (Returned content) bytes line r =
    completes (Returned content) bytes line content (closes_returned content bytes) r
completion (Refused why) bytes line r = absurd r

completed_lines : {marks : ℕ} {line : List ℕ} (c : Completion marks line) (left : ℕ)
    → all_lines (c.more ++ mark_lines left) ≡ (c.more ++ []) ∷ replicate left (37 ∷ [])
completed_lines c left = all_lines-append c.more (mark_lines left)
    ∙ rw (c.single, all_lines-marks left) refl

-- A text of which no byte is refused begins a right text: it goes on by what its last line lacks,
-- and then by the marks that are left.
pub begins_at : {place : Place} {bytes : List ℕ} {line left marks : ℕ} {text : List ℕ}
    → IsAt place bytes line left marks text → BeginsTickText marks text
begins_at {place} {bytes} {line} {left} {marks} {text} at =
    let c = completion place bytes (lines_of text).last at.last in
    let m = all_items-marks left in
    let lines : all_lines (text ++ (c.more ++ mark_lines left))
    ≡ (lines_of text).ended ++ ((lines_of text).last ++ (c.more ++ []))
    ∷ replicate left (37 ∷ []) =
    all_lines-append text (c.more ++ mark_lines left)
    ∙ ap (λ ls. (lines_of text).ended ++ joined (lines_of text).last ls)
    (completed_lines c left) in (
      c.more ++ mark_lines left,
      ended_items text ++ (c.items ++ m.0),
      record {
        lines = ap all_items lines
            ∙ all_items_both (lines_of text).ended
            (((lines_of text).last ++ (c.more ++ [])) ∷ replicate left (37 ∷ []))
            (ended_items text) (c.items ++ m.0) at.ended
            (all_items_cons ((lines_of text).last ++ (c.more ++ [])) (replicate left (37 ∷ []))
            c.items m.0
            (ap (λ x. line_items ((lines_of text).last ++ x)) (append-nil c.more) ∙ c.stands) m.1);
        marked = omega (
          arith,
          marks_in-append (ended_items text) (c.items ++ m.0),
          marks_in-append c.items m.0,
          c.marked,
          m.2,
          at.marked,
        );
      },
    )
