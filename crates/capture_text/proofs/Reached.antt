-- What a text so far is if its reader has come to a place.
use Rattle.line_stamps.{proofs.WalkLaws.walk_keeps, specs.Walks.walk}
use Rattle.capture_text.proofs.LineFacts.{all_more}
use Rattle.capture_text.proofs.Places.{At, Goes, Ends, GoesOn, step_goes, end_goes, EndGoes}
use Rattle.capture_text.proofs.Places.At.{start, in_comment, whole, after_point, fraction}
use Rattle.capture_text.proofs.Places.At.{after_blank, pairs, half, after_return}
use Rattle.capture_text.specs.CaptureText.{stays_in_line, AreLines, IsLine, IsTextCapture, IsRowCause}
use Rattle.capture_text.specs.CaptureText.{lines_ended, AreLines.none, AreLines.more}
use Rattle.capture_text.specs.CaptureText.IsContent.{nothing, comment, stamped}
use Rattle.capture_text.specs.CaptureText.IsLine.{plain, returned}
use Rattle.capture_text.specs.TextStep.{text_step_at, text_may_end, end_fault_at, Stepped}
use Rattle.capture_text.specs.declared.fault.TextFault.{TextFault}
use Rattle.capture_text.specs.declared.place.Place.{Place, TheVariants.Start}
use Rattle.line_stamps.specs.declared.capture.CaptureByte.{CaptureByte}
use Rattle.std.proofs.Common.{◌≡◌, ◌∙◌, ℕ, ◌+◌, ◌==◌, true, false, List, [], ◌∷◌, ◌++◌, Option}
use Rattle.std.proofs.Common.{Some, None, Ok, Err, refl, ap, sym, subst, arith, append_assoc}
use Rattle.std.proofs.Common.{append-nil, inl, inr, if◌then◌else◌}
use Rattle.std.specs.{List.list_all, Option.option_to_list}

-- the text so far: lines that ended, and a line that brings its reader to this place
pub record Reached (place : Place) (text : List ℕ) (items : List CaptureByte) : Type 0 where
  pub ended : List ℕ
  pub line : List ℕ
  pub before : List CaptureByte
  pub these : List CaptureByte
  pub text_is : text ≡ ended ++ line
  pub items_are : items ≡ before ++ these
  pub lines : AreLines ended before
  pub one_line : list_all stays_in_line line ≡ true
  pub at : At place line these

pub reached_start : Reached Start [] []
reached_start = record {
  ended = [];
  line = [];
  before = [];
  these = [];
  text_is = refl;
  items_are = refl;
  lines = none;
  one_line = refl;
  at = start;
}

ends_line_so : (place next : Place) (text : List ℕ) (items : List CaptureByte) (b : ℕ)
    (item : Option CaptureByte) (r : Reached place text items) → Ends r.line r.these b (next, item)
    → Reached next (text ++ b ∷ []) (items ++ option_to_list item)
ends_line_so place next text items b item r e = record {
  ended = r.ended ++ (r.line ++ 10 ∷ []);
  line = [];
  before = r.before ++ r.these;
  these = [];
  text_is = ap (λ x. x ++ b ∷ []) r.text_is ∙ append_assoc r.ended r.line (b ∷ [])
      ∙ ap (λ c. r.ended ++ (r.line ++ c ∷ [])) e.feed
      ∙ sym (append-nil (r.ended ++ (r.line ++ 10 ∷ [])));
  items_are = ap (λ x. x ++ option_to_list item) r.items_are
      ∙ ap (λ o. (r.before ++ r.these) ++ option_to_list o) (ap (λ n. n.1) e.next_is);
  lines = more r.ended r.line r.before r.these r.lines e.is_line;
  one_line = refl;
  at = let Q : Place → Type 0 = λ q. At q [] [] in
      subst Q (sym (ap (λ n. n.0) e.next_is)) start;
}

goes_on_so : (place next : Place) (text : List ℕ) (items : List CaptureByte) (b : ℕ)
    (item : Option CaptureByte) (r : Reached place text items)
    → GoesOn r.line r.these b (next, item)
    → Reached next (text ++ b ∷ []) (items ++ option_to_list item)
goes_on_so place next text items b item r g = record {
  ended = r.ended;
  line = r.line ++ b ∷ [];
  before = r.before;
  these = r.these ++ option_to_list item;
  text_is = ap (λ x. x ++ b ∷ []) r.text_is ∙ append_assoc r.ended r.line (b ∷ []);
  items_are = ap (λ x. x ++ option_to_list item) r.items_are
      ∙ append_assoc r.before r.these (option_to_list item);
  lines = r.lines;
  one_line = all_more stays_in_line r.line b r.one_line g.stays;
  at = g.at;
}

pub reached_more : (place next : Place) (text : List ℕ) (items : List CaptureByte) (b : ℕ)
    (item : Option CaptureByte) → Reached place text items → text_step_at place b ≡ Ok (next, item)
    → Reached next (text ++ b ∷ []) (items ++ option_to_list item)
reached_more place next text items b item r e =
    let Q : Stepped → Type 0 = λ s. Goes r.line r.these b s in
    elim (subst Q e (step_goes place r.line r.these b r.at)) [
      | inl l ↦ ends_line_so place next text items b item r l
      | inr g ↦ goes_on_so place next text items b item r g
    ]

-- If a walk from the start of a text comes to a place, the text has reached this place.
pub reached : (place : Place) (text : List ℕ) (items : List CaptureByte)
    → walk text_step_at Start text ≡ Ok (place, items) → Reached place text items
reached place text items e = walk_keeps text_step_at Reached reached_more Start place [] text [] items
    reached_start e

pub reached_cause : (place : Place) (text : List ℕ) (items : List CaptureByte) (b : ℕ)
    (why : TextFault) → Reached place text items → text_step_at place b ≡ Err why
    → IsRowCause text (Some b) why
reached_cause place text items b why r e =
    let Q : Stepped → Type 0 = λ s. Goes r.line r.these b s in
    record {
      ended = r.ended;
      line = r.line;
      items = r.before;
      text_is = r.text_is;
      lines = r.lines;
      one_line = r.one_line;
      why_is = sym (subst Q e (step_goes place r.line r.these b r.at));
    }

-- If a text may end at a place, the line so far is a whole line.
ends_so : (place : Place) (line : List ℕ) (items : List CaptureByte) → At place line items
    → text_may_end place ≡ true → IsLine line items
ends_so place line items start m = plain [] [] nothing
ends_so place line items (in_comment _ c) m = plain line [] (comment line c)
ends_so place line items (whole _ time w) m = cc
ends_so place line items (after_point front time w) m = cc
ends_so place line items (fraction _ time counts f) m = cc
ends_so place line items (after_blank seconds blank time t apart) m = cc
ends_so place line items (pairs _ time _ r) m = plain line items (stamped line time items r)
ends_so place line items (half _ time first high _ h) m = cc
ends_so place line items (after_return content _ c) m = returned content items c

pub reached_end : (place : Place) (text : List ℕ) (items : List CaptureByte)
    → Reached place text items → text_may_end place ≡ true → IsTextCapture text items
reached_end place text items r m = record {
  ended = r.ended;
  last = r.line;
  items_before = r.before;
  items_last = r.these;
  text_is = r.text_is;
  items_are = r.items_are;
  lines = r.lines;
  last_line = ends_so place r.line r.these r.at m;
}

pub reached_open : (place : Place) (text : List ℕ) (items : List CaptureByte) (why : TextFault)
    → Reached place text items → end_fault_at place ≡ Some why
    → (text_may_end place ≡ false) × IsRowCause text None why
reached_open place text items why r e =
    let Q : Option TextFault → Type 0 = λ o. EndGoes r.line place o in
    let goes = subst Q e (end_goes place r.line r.these r.at) in (
      goes.0,
      record {
        ended = r.ended;
        line = r.line;
        items = r.before;
        text_is = r.text_is;
        lines = r.lines;
        one_line = r.one_line;
        why_is = sym goes.1;
      },
    )

pub reached_closed : (place : Place) (text : List ℕ) (items : List CaptureByte)
    → Reached place text items → end_fault_at place ≡ None → text_may_end place ≡ true
reached_closed place text items r e =
    let Q : Option TextFault → Type 0 = λ o. EndGoes r.line place o in
    subst Q e (end_goes place r.line r.these r.at)

pub lines_ended-more : (text : List ℕ) (b : ℕ)
    → lines_ended (text ++ b ∷ []) ≡ lines_ended text + (if b == 10 then 1 else 0)
lines_ended-more [] b = omega arith
lines_ended-more (c ∷ text) b =
    ap (λ n. (if c == 10 then 1 else 0) + n) (lines_ended-more text b) ∙ omega arith
