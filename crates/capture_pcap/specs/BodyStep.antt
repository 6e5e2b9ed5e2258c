-- What each field and each byte of a packet leads to. It is a second view of the format of
-- Record.antt, and is proved equal to it.
use Rattle.std.specs.Prelude.{◌≡◌, ℕ, ◌-◌, nat_lt, Bool, true, false, if◌then◌else◌, List}
use Rattle.std.specs.Prelude.{Option, Some, None, slice_index}
use Rattle.std.specs.Prelude.{option_map}
use Rattle.line_stamps.specs.declared.capture.Way.{Way}
use Rattle.capture_pcap.specs.Record.{event_way, seen_event, seen_byte}
use Rattle.line_stamps.specs.declared.seen.Seen.{Seen}
use Rattle.capture_pcap.specs.declared.body.Body.{Body}
use Rattle.capture_pcap.specs.declared.body.Body.TheVariants.{Seconds, Fraction, Event, Data}

-- whether a byte of data comes next, rather than a field of four
abbrev pub takes_data : Body → Bool
takes_data (Data start left way first) = true
takes_data (Seconds start left) = false
takes_data (Fraction start left) = false
takes_data (Event start left) = false

-- whether a byte of data is left, if data come next
abbrev pub has_more : Body → Bool
has_more (Data start left way first) = nat_lt 0 left
has_more (Seconds start left) = true
has_more (Fraction start left) = true
has_more (Event start left) = true

-- what a field or a byte leads to: what comes next in the packet, or `None` at its end, and what
-- was seen
abbrev pub Next : Type 0
Next = Option Body × Option Seen

-- Holds if a byte of data is left whenever data come next.
abbrev pub IsSoundNext : Next → Type 0
IsSoundNext next = sound next.0
  where
    sound : Option Body → Type 0
    sound (Some body) = has_more body ≡ true
    sound None = Unit {0}

-- what comes next if this many bytes of data are left
abbrev pub data_of : ℕ → ℕ → Option Way → Bool → Option Body
data_of start left way first = if nat_lt 0 left then Some (Data start left way first) else None

-- what comes after an event that has this many bytes of data
abbrev pub body_event : ℕ → ℕ → ℕ → Next
body_event start left event =
    (data_of start left (event_way event) true, seen_event start event left (event_way event))

-- what a field of four bytes leads to
unfoldable pub body_field_at : Body → List ℕ → Next
body_field_at (Seconds start left) word = (Some (Fraction start left), None)
body_field_at (Fraction start left) word = (Some (Event start left), None)
body_field_at (Event start left) word = body_event start left (slice_index word 0)
body_field_at (Data start left way first) word = (None, None)

-- what a byte of data leads to
abbrev pub body_byte_at : Body → ℕ → Next
body_byte_at (Data start left way first) b =
    (data_of start (left - 1) way false, option_map (λ w. seen_byte start w first b) way)
body_byte_at (Seconds start left) b = (None, None)
body_byte_at (Fraction start left) b = (None, None)
body_byte_at (Event start left) b = (None, None)

-- the place within a packet that goes on, or the place after it
abbrev pub body_or : {S : Type 0} → (Body → S) → S → Option Body → S
body_or within behind (Some body) = within body
body_or within behind None = behind
