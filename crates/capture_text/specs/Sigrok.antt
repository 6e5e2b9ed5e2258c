-- The trace that sigrok-cli writes from its UART decoder with --protocol-decoder-jsontrace: Google
-- Trace Events, one on each line. An event has a line where it begins and a line where it ends.
-- Each has its time in microseconds, the decoder, the row that it is in, and its name: the byte in
-- hex digits, or what is wrong.
use Rattle.std.specs.Prelude.{ℕ, if◌then◌else◌, List, [], ◌∷◌}
use Rattle.std.specs.Prelude.{Option, Some, None, Result, Ok, Err, bytes_eq, codes, option_map}
use Rattle.hex.specs.Hex.{hex_digit_value}
use Rattle.capture_text.specs.Parts.{front, behind, skip}
use Rattle.capture_text.specs.Decimals.{time_at}
use Rattle.capture_text.specs.Logic2.{comma, pair_value}
use Rattle.capture_text.specs.declared.row_fault.RowFault.{RowFault}
use Rattle.capture_text.specs.declared.row_fault.RowFault.TheVariants.{Line, Time, Data}
use Rattle.capture_text.specs.declared.row.Row.{Row}
use Rattle.capture_text.specs.declared.row.RowItem.{RowItem}
use Rattle.capture_text.specs.declared.row.Stage.{Stage}
use Rattle.capture_text.specs.declared.row.Stage.TheVariants.{Start, Rows, First, More, Last, Done}
use Rattle.capture_text.specs.declared.row.What.{What}
use Rattle.capture_text.specs.declared.row.What.TheVariants.{Byte, Event}

-- `"` and a space
abbrev pub quote : ℕ
quote = 34

abbrev pub space : ℕ
space = 32

-- the line of an event from its phase on, from its time on, from its row on, and from its name on
abbrev pub phase_text : List ℕ → List ℕ
phase_text line = skip (codes "{\"ph\": \"") line

abbrev pub time_text : List ℕ → List ℕ
time_text line = skip (codes ", \"ts\": ") (behind quote (phase_text line))

abbrev pub row_text : List ℕ → List ℕ
row_text line = skip (codes " \"pid\": \"uart-1\", \"tid\": \"") (behind comma (time_text line))

abbrev pub name_text : List ℕ → List ℕ
name_text line = skip (codes ", \"name\": \"") (behind quote (row_text line))

-- a byte in two hex digits
abbrev pub byte_named : List ℕ → Option ℕ
byte_named (high ∷ low ∷ []) = pair_value (hex_digit_value high) (hex_digit_value low)
byte_named _ = None

-- What an event with this name says. Bytes are only in rows without a space in their name, which
-- are `RX` and `TX`.
abbrev pub what_named : List ℕ → List ℕ → Option What
what_named row name =
    if bytes_eq name (codes "Frame error") then Some (Event 7)
    else if bytes_eq name (codes "Parity error") then Some (Event 8)
    else if bytes_eq name (codes "Break condition") then Some (Event 9)
    else if bytes_eq (front space row) row then option_map Byte (byte_named name)
    else None

-- what may follow an event whose line ends like this: another event if there is a comma, otherwise
-- the last line
abbrev pub after_event : List ℕ → Option Stage
after_event end =
    if bytes_eq end (codes "},") then Some More
    else if bytes_eq end (codes "}") then Some Last
    else None

abbrev pub said_at : ℕ → Option What → Result (Option RowItem) RowFault
said_at time (Some said) = Ok (Some (record { start = time; what = said }))
said_at time None = Err Data

abbrev pub timed_event : Option ℕ → Option What → Result (Option RowItem) RowFault
timed_event (Some time) said = said_at time said
timed_event None said = Err Time

-- whether an event begins or ends, its time in nanoseconds, and what it says by its row and its
-- name
abbrev pub event_phase : List ℕ → List ℕ
event_phase line = front quote (phase_text line)

abbrev pub event_time : List ℕ → Option ℕ
event_time line = time_at 1000 (front comma (time_text line))

abbrev pub event_what : List ℕ → Option What
event_what line = what_named (front quote (row_text line)) (front quote (name_text line))

-- what the line of an event says: something if the event begins there, and nothing if it ends
abbrev pub event_said : List ℕ → Result (Option RowItem) RowFault
event_said line =
    if bytes_eq (event_phase line) (codes "E") then Ok None
    else if bytes_eq (event_phase line) (codes "B")
    then timed_event (event_time line) (event_what line)
    else Err Line

abbrev pub said_row : Stage → Result (Option RowItem) RowFault → Result Row RowFault
said_row following (Ok said) = Ok (record { next = following; item = said })
said_row following (Err why) = Err why

abbrev pub row_before : Option Stage → Result (Option RowItem) RowFault → Result Row RowFault
row_before (Some following) said = said_row following said
row_before None said = Err Line

abbrev pub event_row : List ℕ → Result Row RowFault
event_row line = row_before (after_event (behind quote (name_text line))) (event_said line)

abbrev pub last_row : List ℕ → Result Row RowFault
last_row line =
    if bytes_eq line (codes "]}") then Ok (record { next = Done; item = None }) else Err Line

abbrev pub trace_row : Stage → List ℕ → Result Row RowFault
trace_row Start line =
    if bytes_eq line (codes "{\"traceEvents\": [")
    then Ok (record { next = First; item = None })
    else Err Line
trace_row First line = if bytes_eq line (codes "]}") then last_row line else event_row line
trace_row Rows line = event_row line
trace_row More line = event_row line
trace_row Last line = last_row line
trace_row Done line = Err Line

-- the channel of an event: the first word of its row, `RX` or `TX`
abbrev pub trace_name : List ℕ → List ℕ
trace_name line = front space (front quote (row_text line))
