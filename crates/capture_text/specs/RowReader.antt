-- What a reader of an export in rows represents.
use Rattle.std.specs.Prelude.{◌≡◌, ℕ, ◌+◌, ◌≤◌, List, [], ◌++◌, length, Option, Some, None, Result, Ok}
use Rattle.std.specs.Prelude.{Err, ◌==◌, not, true, if◌then◌else◌}
use Rattle.std.specs.List.{list_all}
use Rattle.line_stamps.specs.Walks.{walk}
use Rattle.yasir_ticks.specs.Characters.{line_feed}
use Rattle.line_stamps.specs.declared.seen.Seen.{Seen}
use Rattle.capture_text.specs.CaptureText.{lines_ended}
use Rattle.capture_text.specs.Names.{names_of}
use Rattle.capture_text.specs.Rows.{RowState, first_state, rows_step_at, AreRows, line_at}
use Rattle.capture_text.specs.declared.TheConstants.{MAX_LINE}
use Rattle.capture_text.specs.declared.row_fault.RowFault.{RowFault}
use Rattle.capture_text.specs.declared.row_fault.RowFault.TheVariants.{End, Long}
use Rattle.capture_text.specs.declared.row_fault.BadRow.{BadRow}
use Rattle.capture_text.specs.declared.row.Row.{Row}
use Rattle.capture_text.specs.declared.row.Stage.{Stage}
use Rattle.capture_text.specs.declared.row_reader.RowReader.{RowReader}

abbrev pub row_bytes_taken : {F : Type 0} → RowReader F → ℕ
row_bytes_taken reader = reader.taken

abbrev pub state_of : {F : Type 0} → RowReader F → RowState
state_of reader = record { stage = reader.stage; names = names_of reader.names }

abbrev pub place_of : {F : Type 0} → RowReader F → RowState × List ℕ
place_of reader = (state_of reader, reader.line.items)

-- a number of lines, and one more if this byte ends a line
abbrev pub with_line : ℕ → ℕ → ℕ
with_line n b = if b == line_feed then n + 1 else n

-- The reader has refused its export with this refusal, and returns it from then on.
abbrev pub RowReaderHasRefused : {F : Type 0} → RowReader F → BadRow → Type 0
RowReaderHasRefused reader bad = reader.refused ≡ Some bad

module _ {F : Type 0} (row_at : Stage → List ℕ → Result Row RowFault) (name_of : List ℕ → List ℕ)
  where
    -- The reader has taken this text and refused no line of it, and this is what was seen so far.
    pub record RowReaderStandsFor (reader : RowReader F) (text : List ℕ) (items : List Seen) : Type 0 where
      pub walks : walk (rows_step_at row_at name_of) (first_state, []) text ≡ Ok (place_of reader, items)
      pub open_yet : reader.refused ≡ None
      pub counted : reader.taken ≡ length text
      pub begun : reader.begun + length reader.line.items ≡ reader.taken
      pub lines : reader.ended ≡ lines_ended text

    -- The reader takes the end of its line with this result.
    abbrev pub TakesRowLine : RowReader F → Result (Option Seen) RowFault → RowReader F → Type 0
    TakesRowLine old (Ok item) new =
        (line_at row_at name_of (state_of old) old.line.items ≡ Ok (state_of new, item))
        × (new.line.items ≡ []) × (new.taken ≡ old.taken) × (new.refused ≡ old.refused)
        × (new.begun ≡ old.begun) × (new.ended ≡ old.ended)
    TakesRowLine old (Err why) new =
        (line_at row_at name_of (state_of old) old.line.items ≡ Err why)
        × (new.begun ≡ old.begun) × (new.ended ≡ old.ended)

    -- The reader takes one byte with this result.
    abbrev pub RowReaderTakes : RowReader F → ℕ → Result (Option Seen) RowFault → RowReader F → Type 0
    RowReaderTakes old b (Ok item) new =
        (rows_step_at row_at name_of (place_of old) b ≡ Ok (place_of new, item))
        × (new.taken ≡ old.taken + 1) × (new.refused ≡ old.refused)
        × (old.begun + length old.line.items ≡ old.taken
        → new.begun + length new.line.items ≡ new.taken)
        × (new.ended ≡ with_line old.ended b)
    RowReaderTakes old b (Err why) new =
        (rows_step_at row_at name_of (place_of old) b ≡ Err why)
        × (new.begun ≡ old.begun) × (new.ended ≡ old.ended)

module _ (row_at : Stage → List ℕ → Result Row RowFault) (name_of : List ℕ → List ℕ) where
  -- Why a byte, or the end of the export, is refused after the line so far: an LF because of the
  -- line that it ends, and any other byte because the line is as long as a line may be.
  abbrev pub CauseIn : RowState → List ℕ → Option ℕ → RowFault → Type 0
  CauseIn state line (Some b) why =
      (b ≡ line_feed → line_at row_at name_of state line ≡ Err why)
      × ((b ≡ line_feed → ⊥) → (MAX_LINE ≤ length line) × (why ≡ Long))
  CauseIn state line None why = why ≡ End

  -- A byte, or the end of the export, is refused in this line: the rows before it are right, and
  -- the cause says why the byte isn't taken after the line so far, or why the export may not end
  -- there.
  pub record RowReaderRefuses (text : List ℕ) (items : List Seen) (following : Option ℕ) (bad : BadRow) : Type 0 where
    pub ended : List ℕ
    pub line : List ℕ
    pub state : RowState
    pub text_is : text ≡ ended ++ line
    pub rows : AreRows row_at name_of state ended items
    pub one_line : list_all (λ b. not (b == line_feed)) line ≡ true
    pub offset : bad.offset ≡ length ended
    pub number : bad.line ≡ lines_ended text + 1
    pub cause : CauseIn state line following bad.why
