-- The reader of rows reads exports exactly, whatever their form.
use Rattle.line_stamps.proofs.WalkLaws.{walk-cons, walk-join, walk-one, walk-more, walk_keeps}
use Rattle.line_stamps.proofs.WalkLaws.{reads_each, reads_none, reads_open}
use Rattle.line_stamps.specs.Walks.{walk, ReadsFormat, WalkBeginsNone}
use Rattle.capture_text.specs.Rows.{RowState, first_state, rows_may_end, rows_may_end_at, ended_line, line_at}
use Rattle.capture_text.specs.Rows.{rows_step_at, AreRows, IsExport, AreRowsSoFar, AreRows.none, AreRows.more}
use Rattle.capture_text.specs.declared.TheConstants.{MAX_LINE}
use Rattle.capture_text.specs.declared.row_fault.RowFault.{RowFault}
use Rattle.capture_text.specs.declared.row_fault.RowFault.TheVariants.{Long}
use Rattle.capture_text.specs.declared.row.Row.{Row}
use Rattle.{capture_text.specs.declared.row.Stage.Stage, line_stamps.specs.declared.seen.Seen.Seen}
use Rattle.std.proofs.Common.{◌≡◌, ◌∙◌, ℕ, ◌+◌, ◌<◌, ◌≤◌, ◌==◌, not, nat_lt, Bool, true, false}
use Rattle.std.proofs.Common.{List, [], ◌∷◌, ◌++◌, length, Option, None, Result, Ok, Err, refl, ap}
use Rattle.std.proofs.Common.{sym, subst, arith, append_assoc, append-nil, lt-ltb, ◌⊎◌, inl, inr}
use Rattle.std.proofs.lemmas.Bool.{and_parts, eqb-true, eq-eqb, ne_eqb, ltb-true, le-ltb, cond-true}
use Rattle.std.proofs.lemmas.{Bool.cond-false, List.length-append}
use Rattle.std.specs.{List.list_all, Option.option_to_list}
use Rattle.yasir_ticks.specs.Characters.{line_feed}

abbrev Place : Type 0
Place = RowState × List ℕ

abbrev stays_in : ℕ → Bool
stays_in = λ b. not (b == line_feed)

bool_cases : (t : Bool) → (t ≡ true) ⊎ (t ≡ false)
bool_cases true = inl refl
bool_cases false = inr refl

all_more : (test : ℕ → Bool) (x : List ℕ) (b : ℕ) → list_all test x ≡ true → test b ≡ true
    → list_all test (x ++ b ∷ []) ≡ true
all_more test [] b h e = rw e refl
all_more test (c ∷ x) b h e =
    let parts = and_parts (test c) (list_all test x) h in
    rw (parts.0, all_more test x b parts.1 e) refl

other_byte : (b : ℕ) → (b == line_feed) ≡ false → stays_in b ≡ true
other_byte b e = rw e refl

-- A line has ended, and the reader has come to this place.
record CameLine (r : Result (RowState × Option Seen) RowFault) (next : Place) (item : Option Seen) :
    Type 0 where
  pub after : RowState
  pub is : r ≡ Ok (after, item)
  pub next_is : next ≡ (after, [])

came_line : (r : Result (RowState × Option Seen) RowFault) (next : Place) (item : Option Seen)
    → ended_line r ≡ Ok (next, item) → CameLine r next item
came_line (Ok after) next item e = record {
  after = after.0;
  is = ap (λ o. Ok (after.0, o)) (ap (item_of item) e);
  next_is = sym (ap (place_in next) e);
}
  where
    item_of : Option Seen → Result (Place × Option Seen) RowFault → Option Seen
    item_of d (Ok n) = n.1
    item_of d (Err why) = d

    place_in : Place → Result (Place × Option Seen) RowFault → Place
    place_in d (Ok n) = n.0
    place_in d (Err why) = d
came_line (Err why) next item e = cc

-- A byte has joined its line, and the reader has come to this place.
record CameByte (state : RowState) (line : List ℕ) (b : ℕ) (next : Place) (item : Option Seen) :
    Type 0 where
  pub next_is : next ≡ (state, line ++ b ∷ [])
  pub item_is : item ≡ None

came_byte : (state : RowState) (line : List ℕ) (b : ℕ) (next : Place) (item : Option Seen)
    (r : Result (Place × Option Seen) RowFault) → r ≡ Ok ((state, line ++ b ∷ []), None)
    → r ≡ Ok (next, item) → CameByte state line b next item
came_byte state line b next item r is e = record {
  next_is = ap (place_in next) (sym e ∙ is);
  item_is = ap (item_of item) (sym e ∙ is);
}
  where
    item_of : Option Seen → Result (Place × Option Seen) RowFault → Option Seen
    item_of d (Ok n) = n.1
    item_of d (Err why) = d

    place_in : Place → Result (Place × Option Seen) RowFault → Place
    place_in d (Ok n) = n.0
    place_in d (Err why) = d

never : (r : Result (Place × Option Seen) RowFault) (next : Place) (item : Option Seen)
    (why : RowFault) → r ≡ Err why → r ≡ Ok (next, item) → ⊥
never r next item why e f = cc

module _ (row_at : Stage → List ℕ → Result Row RowFault) (name_of : List ℕ → List ℕ) where
  abbrev step : Place → ℕ → Result (Place × Option Seen) RowFault
  step = rows_step_at row_at name_of

  abbrev start : Place
  start = (first_state, [])

  -- The text so far is lines that have ended, and the line so far.
  pub record At (place : Place) (text : List ℕ) (items : List Seen) : Type 0 where
    pub ended : List ℕ
    pub text_is : text ≡ ended ++ place.1
    pub rows : AreRows row_at name_of place.0 ended items
    pub one_line : list_all stays_in place.1 ≡ true
    pub short : length place.1 ≤ MAX_LINE

  at_start : At start [] []
  at_start = record {
    ended = [];
    text_is = refl;
    rows = none;
    one_line = refl;
    short = omega arith;
  }

  -- ---- one more byte

  pub plain_step : (state : RowState) (line : List ℕ) (b : ℕ) → (b == line_feed) ≡ false
      → length line < MAX_LINE
      → step (state, line) b ≡ Ok ((state, line ++ b ∷ []), None)
  unfolding rows_step_at
  plain_step state line b h short = rw (h, lt-ltb (length line) MAX_LINE short) refl

  lf_step : (before after : RowState) (line : List ℕ) (item : Option Seen)
      → line_at row_at name_of before line ≡ Ok (after, item)
      → step (before, line) line_feed ≡ Ok ((after, []), item)
  unfolding rows_step_at
  lf_step before after line item e = ap ended_line e

  pub lf_ends : (state : RowState) (line : List ℕ) (b : ℕ)
      (r : Result (RowState × Option Seen) RowFault) → b ≡ line_feed
      → line_at row_at name_of state line ≡ r → step (state, line) b ≡ ended_line r
  unfolding rows_step_at
  lf_ends state line b r e is = cond-true _ _ _ (eq-eqb b line_feed e) ∙ ap ended_line is

  pub long_stops : (state : RowState) (line : List ℕ) (b : ℕ) → (b ≡ line_feed → ⊥)
      → MAX_LINE ≤ length line → step (state, line) b ≡ Err Long
  unfolding rows_step_at
  long_stops state line b other long =
      cond-false _ _ _ (ne_eqb b line_feed other)
      ∙ cond-false _ _ _ (le-ltb (length line) MAX_LINE long)

  after_lf : (place next : Place) (text : List ℕ) (items : List Seen) (b : ℕ) (item : Option Seen)
      → At place text items → b ≡ line_feed
      → CameLine (line_at row_at name_of place.0 place.1) next item
      → At next (text ++ b ∷ []) (items ++ option_to_list item)
  after_lf place next text items b item at lf came =
      let Q : Place → Type 0 = λ p. At p (text ++ b ∷ []) (items ++ option_to_list item) in
      subst Q (sym came.next_is) (record {
        ended = at.ended ++ (place.1 ++ line_feed ∷ []);
        text_is = ap (λ x. text ++ x ∷ []) lf ∙ ap (λ x. x ++ line_feed ∷ []) at.text_is
            ∙ append_assoc at.ended place.1 (line_feed ∷ [])
            ∙ sym (append-nil (at.ended ++ (place.1 ++ line_feed ∷ [])));
        rows = more place.0 came.after at.ended place.1 items item at.rows at.one_line at.short
            came.is;
        one_line = refl;
        short = omega arith;
      })

  after_byte : (place next : Place) (text : List ℕ) (items : List Seen) (b : ℕ) (item : Option Seen)
      → At place text items → (b == line_feed) ≡ false → length place.1 < MAX_LINE
      → CameByte place.0 place.1 b next item
      → At next (text ++ b ∷ []) (items ++ option_to_list item)
  after_byte place next text items b item at h short came =
      let Q : Place → Type 0 = λ p. At p (text ++ b ∷ []) (items ++ option_to_list item) in
      let R : Option Seen → Type 0 = λ o. AreRows row_at name_of place.0 at.ended
      (items ++ option_to_list o)
      in
      let S : List Seen → Type 0 = λ x. AreRows row_at name_of place.0 at.ended x in
      subst Q (sym came.next_is) (record {
        ended = at.ended;
        text_is = ap (λ x. x ++ b ∷ []) at.text_is ∙ append_assoc at.ended place.1 (b ∷ []);
        rows = subst R (sym came.item_is) (subst S (sym (append-nil items)) at.rows);
        one_line = all_more stays_in place.1 b at.one_line (other_byte b h);
        short = omega (arith, length-append place.1 (b ∷ []), short);
      })

  stays : (place next : Place) (text : List ℕ) (items : List Seen) (b : ℕ) (item : Option Seen)
      → At place text items → step place b ≡ Ok (next, item)
      → At next (text ++ b ∷ []) (items ++ option_to_list item)
  unfolding rows_step_at
  stays place next text items b item at e = elim (bool_cases (b == line_feed)) [
    | inl t ↦ after_lf place next text items b item at (eqb-true b line_feed t)
        (came_line (line_at row_at name_of place.0 place.1) next item (sym (cond-true _ _ _ t) ∙ e))
    | inr t ↦ elim (bool_cases (nat_lt (length place.1) MAX_LINE)) [
      | inl few ↦ after_byte place next text items b item at t (ltb-true (length place.1) MAX_LINE few)
          (came_byte place.0 place.1 b next item (step place b)
          (cond-false _ _ _ t ∙ cond-true _ _ _ few) e)
      | inr many ↦ absurd (never (step place b) next item Long
          (cond-false _ _ _ t ∙ cond-false _ _ _ many) e)
    ]
  ]

  pub reached : (place : Place) (text : List ℕ) (items : List Seen)
      → walk step start text ≡ Ok (place, items) → At place text items
  reached place text items e = walk_keeps step At stays start place [] text [] items at_start e

  -- ---- whole lines

  line_walk : (state : RowState) (partial line : List ℕ) → list_all stays_in line ≡ true
      → length partial + length line ≤ MAX_LINE
      → walk step (state, partial) line ≡ Ok ((state, partial ++ line), [])
  unfolding walk
  line_walk state partial [] h short =
      ap (λ x. Ok ((state, x), [])) (sym (append-nil partial))
  line_walk state partial (b ∷ line) h short =
      let parts = and_parts (stays_in b) (list_all stays_in line) h in
      let longer : length (partial ++ b ∷ []) + length line ≤ MAX_LINE =
      omega (arith, length-append partial (b ∷ []), short) in
      walk-cons step (state, partial) (state, partial ++ b ∷ []) (state, partial ++ b ∷ line) b line
      None [] (plain_step state partial b (stays_so b parts.0) (omega (arith, short)))
      (line_walk state (partial ++ b ∷ []) line parts.1 longer
      ∙ ap (λ x. Ok ((state, x), [])) (append_assoc partial (b ∷ []) line))
    where
      not_true : (t : Bool) → not t ≡ true → t ≡ false
      not_true true h = cc
      not_true false h = refl

      stays_so : (b : ℕ) → stays_in b ≡ true → (b == line_feed) ≡ false
      stays_so b h = not_true (b == line_feed) h

  rows_walk : (state : RowState) (text : List ℕ) (items : List Seen)
      → AreRows row_at name_of state text items → walk step start text ≡ Ok ((state, []), items)
  unfolding walk
  rows_walk state text items none = refl
  rows_walk state text items (more before after front line first item rows one short e) =
      walk-join step start (before, []) (after, []) front (line ++ line_feed ∷ []) first
      (option_to_list item) (rows_walk before front first rows)
      (walk-join step (before, []) (before, line) (after, []) line (line_feed ∷ []) []
      (option_to_list item) (line_walk before [] line one (omega (arith, short)))
      (walk-one step (before, line) (after, []) line_feed item (lf_step before after line item e)))

  nothing_left : (partial : List ℕ) → (length partial == 0) ≡ true → partial ≡ []
  nothing_left [] h = refl
  nothing_left (b ∷ partial) h = absurd (omega (arith, eqb-true (length (b ∷ partial)) 0 h))

  sound : (text : List ℕ) (place : Place) (items : List Seen)
      → walk step start text ≡ Ok (place, items) → rows_may_end_at place ≡ true
      → IsExport row_at name_of text items
  sound text place items e m =
      let at = reached place text items e in
      let parts = and_parts (rows_may_end place.0.stage) (length place.1 == 0) m in
      let whole : text ≡ at.ended = at.text_is
      ∙ ap (λ x. at.ended ++ x) (nothing_left place.1 parts.1) ∙ append-nil at.ended in
      let Q : List ℕ → Type 0 = λ x. AreRows row_at name_of place.0 x items in
      record { last = place.0; rows = subst Q (sym whole) at.rows; ends = parts.0 }

  complete : (text : List ℕ) (items : List Seen) → IsExport row_at name_of text items
      → (place : Place) × (walk step start text ≡ Ok (place, items)) × (rows_may_end_at place ≡ true)
  complete text items r = ((r.last, []), rows_walk r.last text items r.rows, ends_there)
    where
      ends_there : rows_may_end_at (r.last, []) ≡ true
      ends_there = rw r.ends refl

  pub reads_rows : ReadsFormat step start rows_may_end_at (IsExport row_at name_of)
  reads_rows = record { sound = sound; complete = complete }

  -- ---- what a reader says of a text, if it came to a place over it

  module _ (place : Place) (text : List ℕ) (items : List Seen)
      (walks : walk step start text ≡ Ok (place, items)) where
    pub rows_more : (b : ℕ) (next : Place) (item : Option Seen) → step place b ≡ Ok (next, item)
        → walk step start (text ++ b ∷ []) ≡ Ok (next, items ++ option_to_list item)
    rows_more b next item e = walk-more step start place next text items b item walks e

    pub rows_each : (more : List ℕ) (all : List Seen) → IsExport row_at name_of (text ++ more) all
        → (others : List Seen) × (all ≡ items ++ others)
    rows_each = reads_each step start rows_may_end_at (IsExport row_at name_of) reads_rows text place items
        walks

    pub rows_so_far : AreRowsSoFar row_at name_of text items
    rows_so_far =
        let at = reached place text items walks in
        record {
          ended = at.ended;
          line = place.1;
          state = place.0;
          text_is = at.text_is;
          rows = at.rows;
          one_line = at.one_line;
          short = at.short;
          each = rows_each;
        }

    pub rows_none : (b : ℕ) (why : RowFault) → step place b ≡ Err why
        → WalkBeginsNone (IsExport row_at name_of) (text ++ b ∷ [])
    rows_none b why e = reads_none step start rows_may_end_at (IsExport row_at name_of) reads_rows text place
        items b why walks e

    pub rows_right : rows_may_end_at place ≡ true → IsExport row_at name_of text items
    rows_right m = sound text place items walks m

    pub rows_open : rows_may_end_at place ≡ false → (all : List Seen)
        → IsExport row_at name_of text all → ⊥
    rows_open m = reads_open step start rows_may_end_at (IsExport row_at name_of) reads_rows text place items
        walks m

pub nothing_walks : (row_at : Stage → List ℕ → Result Row RowFault) (name_of : List ℕ → List ℕ)
    (place : Place) → place ≡ (first_state, [])
    → walk (rows_step_at row_at name_of) (first_state, []) [] ≡ Ok (place, [])
unfolding walk
nothing_walks row_at name_of place e = ap (λ p. Ok (p, [])) (sym e)

pub nothing_so_far : (row_at : Stage → List ℕ → Result Row RowFault) (name_of : List ℕ → List ℕ)
    → AreRowsSoFar row_at name_of [] []
nothing_so_far row_at name_of =
    rows_so_far row_at name_of (first_state, []) [] []
    (nothing_walks row_at name_of (first_state, []) refl)
