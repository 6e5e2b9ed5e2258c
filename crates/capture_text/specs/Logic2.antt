-- The table that Saleae Logic 2 exports from its Async Serial analyzers: fields separated by
-- commas, each maybe in quotes. A heading names them: name, type, start_time, duration, data and
-- maybe error. Each row after the heading is a byte: the name of its analyzer, `data`, the time of
-- its start in seconds, how long it took, the byte such as `0x41`, and its error, if it has one. No
-- field has a comma in it.
use Rattle.std.specs.Prelude.{ℕ, ◌+◌, ◌*◌, ◌==◌, ◌&&◌, ◌||◌, if◌then◌else◌, Bool, List, [], ◌∷◌}
use Rattle.std.specs.Prelude.{length, Option, Some, None, Result, Ok, Err, bytes_eq, codes, option_map}
use Rattle.hex.specs.Hex.{hex_digit_value}
use Rattle.capture_text.specs.Parts.{front, behind, unquoted}
use Rattle.capture_text.specs.Decimals.{time_at}
use Rattle.capture_text.specs.declared.row_fault.RowFault.{RowFault}
use Rattle.capture_text.specs.declared.row_fault.RowFault.TheVariants.{Line, Time, Data}
use Rattle.capture_text.specs.declared.row.Row.{Row}
use Rattle.capture_text.specs.declared.row.Stage.{Stage}
use Rattle.capture_text.specs.declared.row.Stage.TheVariants.{Start, Rows, First, More, Last, Done}
use Rattle.capture_text.specs.declared.row.What.{What}
use Rattle.capture_text.specs.declared.row.What.TheVariants.{Byte, Event}

-- `,`
abbrev pub comma : ℕ
comma = 44

-- the first field of a text, without its quotes
abbrev pub logic2_field : List ℕ → List ℕ
logic2_field text = unquoted (front comma text)

-- what follows the first field
abbrev pub others : List ℕ → List ℕ
others text = behind comma text

abbrev pub is_heading : List ℕ → Bool
is_heading line =
    let kind = others line in
    let start = others kind in
    let duration = others start in
    let data_field = others duration in
    let error = logic2_field (others data_field) in
    bytes_eq (logic2_field line) (codes "name") && bytes_eq (logic2_field kind) (codes "type")
    && bytes_eq (logic2_field start) (codes "start_time")
    && bytes_eq (logic2_field duration) (codes "duration")
    && bytes_eq (logic2_field data_field) (codes "data")
    && (length error == 0 || bytes_eq error (codes "error"))

abbrev pub pair_value : Option ℕ → Option ℕ → Option ℕ
pair_value (Some high) (Some low) = Some (high * 16 + low)
pair_value (Some high) None = None
pair_value None low = None

-- a byte in two hex digits after `0x`
abbrev pub byte_in : List ℕ → Option ℕ
byte_in (first ∷ second ∷ high ∷ low ∷ []) =
    if first == 48 && second == 120 then pair_value (hex_digit_value high) (hex_digit_value low) else None
byte_in _ = None

-- what a row says: its byte, or the error in place of it
abbrev pub what_in : List ℕ → List ℕ → Option What
what_in value error =
    if bytes_eq error (codes "framing") then Some (Event 7)
    else if bytes_eq error (codes "parity") then Some (Event 8)
    else if length error == 0 then option_map Byte (byte_in value)
    else None

abbrev pub row_of : ℕ → Option What → Result Row RowFault
row_of time (Some said) =
    Ok (record { next = Rows; item = Some (record { start = time; what = said }) })
row_of time None = Err Data

abbrev pub timed_row : Option ℕ → Option What → Result Row RowFault
timed_row (Some time) said = row_of time said
timed_row None said = Err Time

-- the time of a row, in its third field
abbrev pub row_time : List ℕ → Option ℕ
row_time line = time_at 1000000000 (logic2_field (others (others line)))

-- a row from its fifth field on
abbrev pub data_text : List ℕ → List ℕ
data_text line = others (others (others (others line)))

-- what the fifth and the sixth field of a row say
abbrev pub row_what : List ℕ → Option What
row_what line =
    what_in (logic2_field (data_text line)) (logic2_field (others (data_text line)))

-- what the row of a byte or an error means, or why it is refused
abbrev pub data_row : List ℕ → Result Row RowFault
data_row line =
    if bytes_eq (logic2_field (others line)) (codes "data")
    then timed_row (row_time line) (row_what line)
    else Err Line

-- what a line means at a stage: the heading comes first, and then rows
abbrev pub logic2_row : Stage → List ℕ → Result Row RowFault
logic2_row Start line =
    if is_heading line then Ok (record { next = Rows; item = None }) else Err Line
logic2_row Rows line = data_row line
logic2_row First line = data_row line
logic2_row More line = data_row line
logic2_row Last line = data_row line
logic2_row Done line = data_row line

-- the name of a row's analyzer
abbrev pub logic2_name : List ℕ → List ℕ
logic2_name line = logic2_field line
