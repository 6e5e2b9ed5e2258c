-- An export in rows: what a line does to its reader, given what the line means by its form.
use Rattle.std.specs.Prelude.{◌≡◌, ℕ, ◌-◌, ◌≤◌, ◌==◌, ◌&&◌, nat_lt, not, if◌then◌else◌, Bool, true}
use Rattle.std.specs.Prelude.{false, List, [], ◌∷◌, ◌++◌, length, take, Option, Some, None, Result, Ok, Err}
use Rattle.std.specs.Prelude.{slice_index}
use Rattle.std.specs.List.{list_all}
use Rattle.std.specs.Option.{option_to_list}
use Rattle.line_stamps.specs.Walks.{HaveFirst}
use Rattle.yasir_ticks.specs.Characters.{line_feed, carriage_return}
use Rattle.line_stamps.specs.declared.capture.Way.{Way}
use Rattle.line_stamps.specs.declared.seen.Seen.{Seen}
use Rattle.line_stamps.specs.declared.seen.Seen.TheVariants.{Byte as SeenByte, Event as SeenEvent}
use Rattle.capture_text.specs.Names.{ChannelNames, no_names, way_in}
use Rattle.capture_text.specs.declared.TheConstants.{MAX_LINE}
use Rattle.capture_text.specs.declared.row_fault.RowFault.{RowFault}
use Rattle.capture_text.specs.declared.row_fault.RowFault.TheVariants.{Channel, Long}
use Rattle.capture_text.specs.declared.row.Row.{Row}
use Rattle.capture_text.specs.declared.row.RowItem.{RowItem}
use Rattle.capture_text.specs.declared.row.Stage.{Stage}
use Rattle.capture_text.specs.declared.row.Stage.TheVariants.{Start, Rows, First, More, Last, Done}
use Rattle.capture_text.specs.declared.row.What.{What}
use Rattle.capture_text.specs.declared.row.What.TheVariants.{Byte, Event}

-- what the lines so far have said: what may follow, and the channels
pub record RowState : Type 0 where
  pub stage : Stage
  pub names : ChannelNames

abbrev pub first_state : RowState
first_state = record { stage = Start; names = no_names }

-- whether an export may end at a stage
abbrev pub rows_may_end : Stage → Bool
rows_may_end Start = false
rows_may_end Rows = true
rows_may_end First = false
rows_may_end More = false
rows_may_end Last = false
rows_may_end Done = true

-- a line without the CR at its end, if it has one
abbrev pub row_without_return : List ℕ → List ℕ
row_without_return line =
    if length line == 0 then line
    else if slice_index line (length line - 1) == carriage_return then take (length line - 1) line
    else line

-- what a row says, on the way of its channel: each byte is a record of its own
abbrev pub seen_at : ℕ → Way → What → Seen
seen_at time on_way (Byte value) =
    SeenByte (record { way = on_way; start = time; first = true; byte = value })
seen_at time on_way (Event number) =
    SeenEvent (record { way = Some on_way; start = time; event = number; bytes = 0 })

abbrev pub seen_in_row : Way → RowItem → Seen
seen_in_row on_way item = seen_at item.start on_way item.what

abbrev pub on_way : Stage → RowItem → Option (ChannelNames × Way)
    → Result (RowState × Option Seen) RowFault
on_way following item (Some found) =
    Ok (record { stage = following; names = found.0 }, Some (seen_in_row found.1 item))
on_way following item None = Err Channel

abbrev pub ended_line : Result (RowState × Option Seen) RowFault
    → Result ((RowState × List ℕ) × Option Seen) RowFault
ended_line (Ok after) = Ok ((after.0, []), after.1)
ended_line (Err why) = Err why

-- whether an export may end at a place: only before the first byte of a line
abbrev pub rows_may_end_at : (RowState × List ℕ) → Bool
rows_may_end_at place = rows_may_end place.0.stage && (length place.1 == 0)

module _ (row_at : Stage → List ℕ → Result Row RowFault) (name_of : List ℕ → List ℕ) where
  abbrev pub with_item : ChannelNames → List ℕ → Stage → Option RowItem
      → Result (RowState × Option Seen) RowFault
  with_item names line following (Some item) =
      on_way following item (way_in names (name_of line))
  with_item names line following None =
      Ok (record { stage = following; names = names }, None)

  abbrev pub after_row : ChannelNames → List ℕ → Result Row RowFault
      → Result (RowState × Option Seen) RowFault
  after_row names line (Ok row) = with_item names line row.next row.item
  after_row names line (Err why) = Err why

  -- what a line does in a state: the next state and what is seen, or why it is refused
  abbrev pub line_at : RowState → List ℕ → Result (RowState × Option Seen) RowFault
  line_at state line =
      after_row state.names (row_without_return line) (row_at state.stage (row_without_return line))

  -- Lines one after the other, each of at most 255 bytes and ended by an LF.
  pub data AreRows : RowState → List ℕ → List Seen → Type 0 where
    none : AreRows first_state [] []
    more : (before after : RowState) (text line : List ℕ) (items : List Seen) (item : Option Seen)
        → AreRows before text items → list_all (λ b. not (b == line_feed)) line ≡ true
        → length line ≤ MAX_LINE → line_at before line ≡ Ok (after, item)
        → AreRows after (text ++ (line ++ line_feed ∷ [])) (items ++ option_to_list item)

  -- An export of this form, with these bytes and events.
  pub record IsExport (text : List ℕ) (items : List Seen) : Type 0 where
    pub last : RowState
    pub rows : AreRows last text items
    pub ends : rows_may_end last.stage ≡ true

  -- Holds if the text is right rows, with these items, and the beginning of one more line. Each
  -- export that begins with the text has these items first.
  pub record AreRowsSoFar (text : List ℕ) (items : List Seen) : Type 0 where
    pub ended : List ℕ
    pub line : List ℕ
    pub state : RowState
    pub text_is : text ≡ ended ++ line
    pub rows : AreRows state ended items
    pub one_line : list_all (λ b. not (b == line_feed)) line ≡ true
    pub short : length line ≤ MAX_LINE
    pub each : HaveFirst IsExport text items

  -- What one byte does after this much of a line. It describes the format a second time, and the
  -- two are proved equal.
  unfoldable pub rows_step_at : (RowState × List ℕ) → ℕ
      → Result ((RowState × List ℕ) × Option Seen) RowFault
  rows_step_at place b =
      if b == line_feed then ended_line (line_at place.0 place.1)
      else if nat_lt (length place.1) MAX_LINE then Ok ((place.0, place.1 ++ b ∷ []), None)
      else Err Long
