-- One more byte at a place of a text, and the end of the text.
use Rattle.std.proofs.Common.{◌≡◌, ◌≢◌, ◌≤◌, inl, inr, ◌∙◌, ◌==◌, ℕ, ◌+◌, List, [], ◌∷◌, ◌++◌, Some}
use Rattle.std.proofs.Common.{None, Result, Ok, Err, refl, ap, sym, arith, append_assoc, append-nil}
use Rattle.std.proofs.{Common.unwrap_or, Common.length-append, lemmas.Bool.cases_eq}
use Rattle.std.{proofs.lemmas.Grind.flat_map-append, specs.List.flat_map}
use Rattle.std.specs.Prelude.{OnOk, OnErr, IfOk, IfErr}
use Rattle.yasir_ticks.proofs.{Completions.begins_at, Contents.test_of, Items.marks_in-append}
use Rattle.yasir_ticks.proofs.Items.{marks_in-content, all_items_parts, line_items_parts}
use Rattle.yasir_ticks.proofs.{Items.all_items_both, Items.all_items_cons, Lines.all_lines}
use Rattle.yasir_ticks.proofs.Lines.{joined, lines_of-lf, lines_of-more, all_lines-append}
use Rattle.yasir_ticks.proofs.Lines.{all_lines-lf, all_lines-byte, all_lines-first}
use Rattle.yasir_ticks.specs.Reader.{items_of_content, marks_at, IsAt, StandsFor}
use Rattle.yasir_ticks.specs.ReaderStep.{Accepts, Refuses, LacksMark, Steps, Stops, line_with}
use Rattle.yasir_ticks.specs.TickText.{Lines, lines_of, line_items, all_items, ended_items}
use Rattle.yasir_ticks.specs.TickText.{line_after, fault_after, fault_at_end, IsTickText}
use Rattle.yasir_ticks.specs.TickText.{BeginsTickText, IsRefusedAfter}
use Rattle.yasir_ticks.specs.Ticks.{Item, items_of_run, marks_in}
use Rattle.yasir_ticks.specs.declared.fault.{BadTicks.BadTicks, TickFault.TickFault}
use Rattle.yasir_ticks.specs.declared.place.Place.{Place, TheVariants.Start}
use Rattle.yasir_ticks.specs.declared.{reader.TickReader.TickReader, run.Run.Run}

module _ (text : List ℕ) where
  -- A byte other than LF ends no line, so the items of the ended lines stay the same.
  pub items_more : (b : ℕ) (own : List Item) → b ≢ 10 → own ≡ []
      → ended_items (text ++ b ∷ []) ≡ ended_items text ++ own
  items_more b own n e = rw (lines_of-more text b n, e) (sym (append-nil (ended_items text)))

  pub items_lf : (own : List Item) → line_items (lines_of text).last ≡ Some (own)
      → ended_items (text ++ 10 ∷ []) ≡ ended_items text ++ own
  items_lf own stands =
      let items : List ℕ → List Item = λ l. unwrap_or (line_items l) [] in
      let whole : flat_map items ((lines_of text).ended ++ (lines_of text).last ∷ [])
      ≡ ended_items text ++ own =
      flat_map-append items (lines_of text).ended ((lines_of text).last ∷ [])
      ∙ ap (λ o. ended_items text ++ (unwrap_or o [] ++ [])) stands
      ∙ ap (λ x. ended_items text ++ x) (append-nil (own)) in
      rw (lines_of-lf text) whole

  -- The items of all lines, if the last one has a right form too.
  pub items_whole : (own : List Item) → line_items (lines_of text).last ≡ Some (own)
      → all_items (lines_of text).ended ≡ Some (ended_items text)
      → all_items (all_lines text) ≡ Some (ended_items text ++ own)
  items_whole own stands ended =
      all_items_both (lines_of text).ended ((lines_of text).last ∷ []) (ended_items text)
      (own ++ []) ended
      (all_items_cons (lines_of text).last [] (own) [] stands refl)
      ∙ ap (λ x. Some (ended_items text ++ x)) (append-nil (own))

-- An LF after a last line that represents these items brings a reader to the start of the next
-- line.
pub line_ends : (text new_bytes : List ℕ) (line left marks : ℕ) (own : List Item)
    → all_items (lines_of text).ended ≡ Some (ended_items text) → line ≡ line_after text
    → marks_in (ended_items text) + (marks_in own + left) ≡ marks
    → line_items (lines_of text).last ≡ Some own
    → IsAt Start new_bytes (line + 1) left marks (text ++ 10 ∷ [])
line_ends text new_bytes line left marks own ended counted marked stands =
    let same = items_lf text own stands in
    record {
      ended = ap (λ (x : Lines). all_items x.ended) (lines_of-lf text)
          ∙ items_whole text own stands ended ∙ ap Some (sym same);
      marked = rw same (omega (arith, marks_in-append (ended_items text) own, marked));
      counted = rw (lines_of-lf text)
          (omega (
            arith,
            length-append (lines_of text).ended ((lines_of text).last ∷ []),
            counted,
          ));
      last = rw (lines_of-lf text) refl;
    }

module _ (place new_place : Place) (bytes new_bytes : List ℕ) (line left new_left marks : ℕ)
    (text : List ℕ) (at : IsAt place bytes line left marks text) where
  -- A byte other than LF that is accepted brings a reader to the new place of the same line.
  pub at_more : (b : ℕ) (own : List Item) → b ≢ 10
      → Accepts place bytes left b (own) new_place new_bytes new_left
      → IsAt new_place new_bytes line new_left marks (text ++ b ∷ [])
  at_more b own n a = record {
    ended = rw (lines_of-more text b n) at.ended;
    marked = rw (lines_of-more text b n) (omega (
      arith,
      at.marked,
      a.marked,
      ap marks_in (a.nothing n),
    ));
    counted = rw (lines_of-more text b n) at.counted;
    last = rw (lines_of-more text b n) (a.reads n (lines_of text).last at.last);
  }

  -- An LF that is accepted brings a reader to the start of the next line.
  at_lf : (own : List Item) → Accepts place bytes left 10 (own) new_place new_bytes new_left
      → IsAt new_place new_bytes (line + 1) new_left marks (text ++ 10 ∷ [])
  at_lf own a = rw (a.start refl) (line_ends text new_bytes line new_left marks own at.ended
      at.counted (omega (arith, a.marked, at.marked, ap marks_at (a.start refl)))
      (a.stands refl (lines_of text).last at.last))

-- Holds if `line` comes right after the ended lines of a text, among all lines of a longer text:
-- the text, one more byte, and any others.
pub record Split (text : List ℕ) (b : ℕ) (more : List ℕ) (line : List ℕ) : Type 0 where
  pub others : List (List ℕ)
  pub lines : all_lines (text ++ b ∷ more) ≡ (lines_of text).ended ++ line ∷ others

split_lf : (text more : List ℕ) → Split text 10 more (lines_of text).last
split_lf text more = record {
  others = all_lines more;
  lines = all_lines-append text (10 ∷ more)
      ∙ ap (λ ls. (lines_of text).ended ++ joined (lines_of text).last ls) (all_lines-lf more)
      ∙ ap (λ l. (lines_of text).ended ++ l ∷ all_lines more) (append-nil (lines_of text).last);
}

split_byte : (text : List ℕ) (b : ℕ) (more : List ℕ) → b ≢ 10
    → (l : List ℕ) × Split text b more ((lines_of text).last ++ b ∷ l)
split_byte text b more n =
    let first = all_lines-first more in (
      first.0,
      record {
        others = first.1;
        lines = all_lines-append text (b ∷ more)
            ∙ ap (λ ls. (lines_of text).ended ++ joined (lines_of text).last ls)
            (all_lines-byte b more n ∙ ap (joined (b ∷ [])) first.2);
      },
    )

-- In a split of a right text, the line has a right form, and no more marks than are left.
middle : (text : List ℕ) (b : ℕ) (more line : List ℕ) (left marks : ℕ) (items : List Item)
    → Split text b more line
    → all_items (lines_of text).ended ≡ Some (ended_items text)
    → marks_in (ended_items text) + left ≡ marks → IsTickText marks (text ++ b ∷ more) items
    → (own : List Item) × (line_items line ≡ Some own) × (marks_in own ≤ left)
middle text b more line left marks items s ended marked it =
    let front = all_items_parts (lines_of text).ended (line ∷ s.others) items
    (sym (ap all_items s.lines) ∙ it.lines) in
    let back = line_items_parts line s.others front.back front.more_is in
    let same : front.front ≡ ended_items text = cc (front.first_is, ended) in (
      back.front,
      back.first_is,
      omega (
        arith,
        it.marked,
        ap marks_in front.whole,
        marks_in-append front.front front.back,
        ap marks_in back.whole,
        marks_in-append back.front back.back,
        ap marks_in same,
      ),
    )

module _ (place : Place) (bytes : List ℕ) (line left marks : ℕ) (text : List ℕ)
    (at : IsAt place bytes line left marks text) where
  -- If a byte is refused, no right text begins with the text and this byte.
  pub refused_at : (b : ℕ) (why : TickFault) → Refuses place bytes left b why
      → ¬ BeginsTickText marks (text ++ b ∷ [])
  refused_at b why r (more, items, it) =
      let whole : IsTickText marks (text ++ b ∷ more) items =
      rw (← append_assoc text (b ∷ []) more) it in
      elim (cases_eq b 10) [
        | inl e ↦
            let own = middle text b more (lines_of text).last (marks_at place + left) marks items
            (rw e (split_lf text more)) at.ended at.marked whole in
            cc (own.1, r.ended e (lines_of text).last at.last)
        | inr n ↦
            let s = split_byte text b more n in
            let own = middle text b more ((lines_of text).last ++ b ∷ s.0) (marks_at place + left)
            marks items s.1 at.ended at.marked whole in
            omega (arith, r.wrong n (lines_of text).last at.last s.0 own.0 own.1, own.2)
      ]

-- ---- what a step of a reader means for its text

module _ (old new : TickReader) (b marks : ℕ) (text : List ℕ)
    (stood : StandsFor old marks text) where
  -- A byte that is accepted brings the reader to its new place, in the same line or in the next
  -- one.
  pub accepted_at : (own : List Item)
      → Accepts old.place old.bytes.items old.left b own new.place new.bytes.items new.left
      → new.line ≡ line_with old.line b
      → IsAt new.place new.bytes.items new.line new.left marks (text ++ b ∷ [])
  accepted_at own a l =
      elim (cases_eq b 10) [
        | inl e ↦
            let counted : new.line ≡ old.line + 1 = l ∙ rw (ap (λ x. x == 10) e) refl in
            rw (counted, e) (at_lf old.place new.place old.bytes.items new.bytes.items old.line
            old.left new.left marks text stood.at own (rw e at a))
        | inr n ↦
            let counted : new.line ≡ old.line = l ∙ rw (test_of b 10 n) refl in
            rw counted (at_more old.place new.place old.bytes.items new.bytes.items old.line
            old.left new.left marks text stood.at b own n a)
      ]

  pub accepted_items : (own : List Item)
      → Accepts old.place old.bytes.items old.left b own new.place new.bytes.items new.left
      → ended_items (text ++ b ∷ []) ≡ ended_items text ++ own
  accepted_items own a =
      elim (cases_eq b 10) [
        | inl e ↦ rw e (items_lf text own (a.stands e (lines_of text).last stood.at.last))
        | inr n ↦ items_more text b own n (a.nothing n)
      ]

  fed_at : (run : Run) → Steps old b (Ok run) new
      → IsAt new.place new.bytes.items new.line new.left marks (text ++ b ∷ [])
  fed_at run s = accepted_at (items_of_run run) s.case.0 s.case.1

  pub fed_stands : (result : Result Run BadTicks) → Steps old b result new
      → OnOk result (StandsFor new marks (text ++ b ∷ []))
  fed_stands (Ok run) s = record { at = fed_at run s }
  fed_stands (Err bad) s = tt

  pub fed_begins : (result : Result Run BadTicks) → Steps old b result new
      → OnOk result (BeginsTickText marks (text ++ b ∷ []))
  fed_begins (Ok run) s = begins_at (fed_at run s)
  fed_begins (Err bad) s = tt

  pub fed_run : (result : Result Run BadTicks) → Steps old b result new
      → IfOk result (λ run. ended_items (text ++ b ∷ []) ≡ ended_items text ++ items_of_run run)
  fed_run (Ok run) s = accepted_items (items_of_run run) s.case.0
  fed_run (Err bad) s = tt

  pub fed_refused : (result : Result Run BadTicks) → Steps old b result new
      → IfErr result (λ bad. IsRefusedAfter marks text b × (bad.line ≡ line_after text)
      × (bad.why ≡ fault_after text b))
  fed_refused (Ok run) s = tt
  fed_refused (Err bad) s = (
    record {
      begins = begins_at stood.at;
      refused = refused_at old.place old.bytes.items old.line old.left marks text stood.at b
          bad.why s.case.0;
    },
    s.case.1 ∙ stood.at.counted,
    sym (s.case.0.cause (lines_of text).last stood.at.last),
  )

-- A byte that is refused leaves the reader in its line.
pub fed_line : (old new : TickReader) (b : ℕ) (result : Result Run BadTicks)
    → Steps old b result new → OnErr result (new.line ≡ old.line)
fed_line old new b (Ok run) s = tt
fed_line old new b (Err bad) s = s.case.2.line ∙ s.case.1

module _ (reader : TickReader) (marks : ℕ) (text : List ℕ)
    (stood : StandsFor reader marks text) where
  pub ended_right : (result : Result Run BadTicks) → Stops reader result
      → IfOk result (λ run. IsTickText marks text (ended_items text ++ items_of_run run))
  ended_right (Ok run) s = record {
    lines = items_whole text (items_of_run run) (s.case.0 (lines_of text).last stood.at.last)
        stood.at.ended;
    marked = omega (
      arith,
      marks_in-append (ended_items text) (items_of_run run),
      s.case.2,
      s.case.3,
      stood.at.marked,
    );
  }
  ended_right (Err bad) s = tt

  wrong_end : line_items (lines_of text).last ≡ None
      → ¬ ((items : List Item) × IsTickText marks text items)
  wrong_end none (items, it) =
      let whole = all_items_parts (lines_of text).ended ((lines_of text).last ∷ []) items
      it.lines in
      let own = line_items_parts (lines_of text).last [] whole.back whole.more_is in
      cc (own.first_is, none)

  lacking : {why : TickFault} → LacksMark reader.place reader.bytes.items reader.left why
      → ¬ ((items : List Item) × IsTickText marks text items)
  lacking lacks (items, it) =
      let whole = all_items_parts (lines_of text).ended ((lines_of text).last ∷ []) items
      it.lines in
      let own = line_items_parts (lines_of text).last [] whole.back whole.more_is in
      let stands = lacks.closes.stands (lines_of text).last stood.at.last in
      let front : whole.front ≡ ended_items text = cc (whole.first_is, stood.at.ended) in
      let line : own.front ≡ items_of_content lacks.content reader.bytes.items =
      cc (own.first_is, stands) in
      let back : own.back ≡ [] = cc (own.more_is) in
      omega (
        arith,
        it.marked,
        ap marks_in whole.whole,
        marks_in-append whole.front whole.back,
        ap marks_in own.whole,
        marks_in-append own.front own.back,
        ap marks_in front,
        ap marks_in line,
        ap marks_in back,
        marks_in-content lacks.content reader.bytes.items,
        lacks.closes.marked,
        lacks.some,
        stood.at.marked,
      )

  pub ended_refused : (result : Result Run BadTicks) → Stops reader result
      → IfErr result (λ bad. (¬ ((items : List Item) × IsTickText marks text items))
      × (bad.line ≡ line_after text) × (bad.why ≡ fault_at_end text))
  ended_refused (Ok run) s = tt
  ended_refused (Err bad) s = elim s.case.0 [
    | inl wrong ↦
        let none = wrong.wrong (lines_of text).last stood.at.last in (
          wrong_end none,
          s.case.1 ∙ stood.at.counted,
          rw none (sym (wrong.cause (lines_of text).last None refl stood.at.last)),
        )
    | inr lacks ↦
        let some = lacks.closes.stands (lines_of text).last stood.at.last in (
          lacking lacks,
          s.case.1 ∙ stood.at.counted,
          lacks.is ∙ rw some refl,
        )
  ]

-- ---- the empty text

pub at_first : (bytes : List ℕ) (marks : ℕ) → IsAt Start bytes 1 marks marks []
unfolding lines_of
at_first bytes marks = record { ended = refl; marked = omega arith; counted = refl; last = refl }
