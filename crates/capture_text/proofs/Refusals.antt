-- Where the reader of rows refuses an export, and in which line.
use Rattle.capture_text.proofs.RowLaws.{reached}
use Rattle.capture_text.specs.RowReader.{RowReaderStandsFor, RowReaderRefuses, CauseIn, place_of, state_of}
use Rattle.capture_text.specs.RowReader.{with_line}
use Rattle.capture_text.specs.Rows.{RowState, ended_line, line_at, rows_step_at}
use Rattle.capture_text.specs.declared.TheConstants.{MAX_LINE}
use Rattle.capture_text.specs.declared.row_fault.BadRow.{BadRow}
use Rattle.capture_text.specs.declared.row_fault.RowFault.{RowFault}
use Rattle.capture_text.specs.declared.row_fault.RowFault.TheVariants.{Long}
use Rattle.capture_text.specs.declared.row.{Row.Row, Stage.Stage}
use Rattle.capture_text.specs.declared.row_reader.RowReader.{RowReader}
use Rattle.capture_text.{proofs.Reached.lines_ended-more, specs.CaptureText.lines_ended}
use Rattle.line_stamps.specs.declared.seen.Seen.{Seen}
use Rattle.std.proofs.Common.{◌≡◌, ◌∙◌, ℕ, ◌+◌, ◌==◌, if◌then◌else◌, Bool, true, false, List, []}
use Rattle.std.proofs.Common.{◌∷◌, ◌++◌, length, Option, Some, None, Result, Ok, Err, nat_lt, ◌≤◌}
use Rattle.std.proofs.Common.{⊎_elim, refl, ap, sym, arith, lt-ltb}
use Rattle.std.proofs.lemmas.Bool.{cases_lt, eq-eqb, ne_eqb, cond-true, cond-false, le-ltb}
use Rattle.{std.proofs.lemmas.List.length-append, yasir_ticks.specs.Characters.line_feed}

one_more : (t : Bool) (n : ℕ) → (if t then n + 1 else n) ≡ n + (if t then 1 else 0)
one_more true n = refl
one_more false n = omega arith

pub lines_more : (text : List ℕ) (b before after : ℕ) → before ≡ lines_ended text
    → after ≡ with_line before b → after ≡ lines_ended (text ++ b ∷ [])
lines_more text b before after e is =
    is ∙ one_more (b == 10) before ∙ ap (λ n. n + (if b == 10 then 1 else 0)) e
    ∙ sym (lines_ended-more text b)

-- If the LF that ends a line is refused, its line is refused for the same reason.
line_err : (r : Result (RowState × Option Seen) RowFault) (why : RowFault)
    → ended_line r ≡ Err why → r ≡ Err why
line_err (Ok after) why e = cc
line_err (Err other) why e = ap Err (cc)

abbrev Stepped : Type 0
Stepped = Result ((RowState × List ℕ) × Option Seen) RowFault

never : (r : Stepped) (next : (RowState × List ℕ) × Option Seen) (why : RowFault) → r ≡ Ok next
    → r ≡ Err why → ⊥
never r next why e f = cc

is_long : (r : Stepped) (why : RowFault) → r ≡ Err Long → r ≡ Err why → why ≡ Long
is_long r why e f = cc

-- If a byte that stays in its line is refused, the line is too long.
too_long : (next : (RowState × List ℕ) × Option Seen) (n : ℕ) (why : RowFault) (r : Stepped)
    → r ≡ (if nat_lt n MAX_LINE then Ok next else Err Long) → r ≡ Err why
    → (MAX_LINE ≤ n) × (why ≡ Long)
too_long next n why r is e =
    ⊎_elim
    (λ short. absurd (never r next why (is ∙ cond-true _ _ _ (lt-ltb n MAX_LINE short)) e))
    (λ long. (long, is_long r why (is ∙ cond-false _ _ _ (le-ltb n MAX_LINE long)) e))
    (cases_lt n MAX_LINE)

module _ {F : Type 0} (row_at : Stage → List ℕ → Result Row RowFault) (name_of : List ℕ → List ℕ)
  where
    -- A refusal with the start and the number of the reader's line is a right refusal of the text.
    pub refuses_line : (reader : RowReader F) (text : List ℕ) (items : List Seen)
        (following : Option ℕ) (bad : BadRow) → RowReaderStandsFor row_at name_of reader text items
        → bad.offset ≡ reader.begun → bad.line ≡ reader.ended + 1
        → CauseIn row_at name_of (state_of reader) reader.line.items following bad.why
        → RowReaderRefuses row_at name_of text items following bad
    refuses_line reader text items following bad s offset number cause =
        let at = reached row_at name_of (place_of reader) text items s.walks in
        let long : length text ≡ length at.ended + length reader.line.items =
        ap length at.text_is ∙ length-append at.ended reader.line.items in
        record {
          ended = at.ended;
          line = reader.line.items;
          state = state_of reader;
          text_is = at.text_is;
          rows = at.rows;
          one_line = at.one_line;
          offset = omega (arith, offset, s.begun, s.counted, long);
          number = number ∙ ap (λ n. n + 1) s.lines;
          cause = cause;
        }

module _ (row_at : Stage → List ℕ → Result Row RowFault) (name_of : List ℕ → List ℕ) where
  -- The cause that a step gives is the cause in its line.
  pub cause_in : (state : RowState) (line : List ℕ) (b : ℕ) (why : RowFault)
      → rows_step_at row_at name_of (state, line) b ≡ Err why
      → CauseIn row_at name_of state line (Some b) why
  unfolding rows_step_at
  cause_in state line b why e = (
    λ same. line_err (line_at row_at name_of state line) why
        (sym (cond-true _ _ _ (eq-eqb b line_feed same)) ∙ e),
    λ other. too_long ((state, line ++ b ∷ []), None) (length line) why
        (rows_step_at row_at name_of (state, line) b) (cond-false _ _ _ (ne_eqb b line_feed other)) e,
  )
