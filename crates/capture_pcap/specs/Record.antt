-- A record of an RTAC serial capture, link type 250: a header of 12 bytes, and data. The header has
-- seconds and microseconds, an event, the control lines and a footer of two bytes.
use Rattle.std.specs.Prelude.{◌≡◌, ℕ, ◌==◌, Bool, true, false, if◌then◌else◌, List, [], ◌∷◌}
use Rattle.std.specs.Prelude.{◌++◌, length, Option, Some, None}
use Rattle.std.specs.Option.{option_to_list}
use Rattle.line_stamps.specs.declared.capture.Way.{Way}
use Rattle.line_stamps.specs.declared.capture.Way.TheVariants.{A, B}
use Rattle.line_stamps.specs.declared.seen.Seen.{Seen}
use Rattle.line_stamps.specs.declared.seen.Seen.TheVariants.{Byte, Event}

-- The way of the data after an event. Bytes sent follow DATA_TX_START (1), and go way A. Bytes
-- received follow DATA_RX_START (2), and go way B. No other event has bytes of the line.
abbrev pub event_way : ℕ → Option Way
event_way event = if event == 1 then Some A else if event == 2 then Some B else None

-- a byte of the line, whose record starts then
abbrev pub seen_byte : ℕ → Way → Bool → ℕ → Seen
seen_byte start way first byte =
    Byte (record { way = way; start = start; first = first; byte = byte })

-- bytes of a record, and whether the first of these is the record's first byte
abbrev pub seen_bytes : ℕ → Way → Bool → List ℕ → List Seen
seen_bytes start way first [] = []
seen_bytes start way first (byte ∷ bytes) =
    seen_byte start way first byte ∷ seen_bytes start way false bytes

-- what is seen of data of this way: nothing if they have none, since they aren't bytes of the line
-- then
abbrev pub seen_data : ℕ → Option Way → Bool → List ℕ → List Seen
seen_data start (Some way) first bytes = seen_bytes start way first bytes
seen_data start None first bytes = []

-- the event itself, unless it is the start of data
abbrev pub seen_event : ℕ → ℕ → ℕ → Option Way → Option Seen
seen_event start event bytes (Some way) = None
seen_event start event bytes None =
    Some (Event (record { way = None; start = start; event = event; bytes = bytes }))

-- what is seen of a record of this time: the bytes of the line, or an event
abbrev pub seen_of : ℕ → ℕ → List ℕ → List Seen
seen_of start event bytes =
    option_to_list (seen_event start event (length bytes) (event_way event))
    ++ seen_data start (event_way event) true bytes

-- A record of this time with this many bytes of data, and what is seen of it.
pub record IsRecord (start count : ℕ) (bytes : List ℕ) (items : List Seen) : Type 0 where
  pub seconds : List ℕ
  pub microseconds : List ℕ
  pub event : ℕ
  pub others : List ℕ
  pub payload : List ℕ
  pub is : bytes ≡ ((seconds ++ microseconds) ++ event ∷ others) ++ payload
  pub seconds_long : length seconds ≡ 4
  pub microseconds_long : length microseconds ≡ 4
  pub others_long : length others ≡ 3
  pub payload_long : length payload ≡ count
  pub items_are : items ≡ seen_of start event payload
