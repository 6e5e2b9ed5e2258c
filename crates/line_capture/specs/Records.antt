-- The records of lines, and the text of a capture that has them.
use Rattle.std.specs.Prelude.{◌≡◌, ℕ, zero, suc, ◌+◌, ◌*◌, ◌≤◌, List, [], ◌∷◌, ◌++◌}
use Rattle.std.specs.List.{flat_map, filter}
use Rattle.yasir_ticks.specs.declared.tick.Tick.{Tick}
use Rattle.yasir_ticks.specs.declared.tick.Tick.TheVariants.{Silent, Byte}
use Rattle.capture_pcap.specs.Writing.{written_packet}
use Rattle.capture_pcap.specs.declared.writer.TheConstants.{FILE_HEADER}
use Rattle.capture_text.specs.Writing.{written_line}
use Rattle.line_stamps.specs.Giving.{tick_start}
use Rattle.line_stamps.specs.declared.capture.Way.{Way}
use Rattle.line_stamps.specs.declared.capture.Way.TheVariants.{A, B}
use Rattle.line_stamps.specs.declared.rate.Rate.{Rate}
use Rattle.line_capture.specs.Captures.{is_way}
use Rattle.line_capture.specs.declared.records.RecordForm.{RecordForm}
use Rattle.line_capture.specs.declared.records.RecordForm.TheVariants.{Pcap, Text}

-- A record of a line: its way, the tick of its first byte, and its bytes, each one tick after the
-- one before it.
pub record LineRecord : Type 0 where
  pub way : Way
  pub tick : ℕ
  pub bytes : List ℕ

-- the greatest number of bytes after the first byte of a record
abbrev pub most_further : ℕ
most_further = 65535

-- the bytes before the first silence, at most this many
abbrev pub leading : List Tick → ℕ → List ℕ
leading [] most = []
leading (Silent ∷ line) most = []
leading (Byte b ∷ line) zero = []
leading (Byte b ∷ line) (suc most) = b ∷ leading line most

-- the record of a way that begins in this tick with this byte, with these ticks after the byte
abbrev pub record_at : Way → ℕ → ℕ → List Tick → LineRecord
record_at way tick b behind =
    record { way = way; tick = tick; bytes = b ∷ leading behind most_further }

-- The records of a way from this tick on. A byte begins a record if it comes after silence, or if
-- the record before it is full. This many more bytes fit into the record that was begun.
abbrev pub records_from : Way → ℕ → List Tick → ℕ → List LineRecord
records_from way tick [] room = []
records_from way tick (Silent ∷ line) room = records_from way (suc tick) line 0
records_from way tick (Byte b ∷ line) zero =
    record_at way tick b line ∷ records_from way (suc tick) line most_further
records_from way tick (Byte b ∷ line) (suc room) = records_from way (suc tick) line room

-- the records of the line of a way
abbrev pub records_of : Way → List Tick → List LineRecord
records_of way line = records_from way 0 line 0

-- where a record of this way is among those of one tick
abbrev pub way_place : Way → ℕ
way_place A = 0
way_place B = 1

-- Where a record is in a capture. Records are in the order of ticks, and of two in one tick that of
-- way A comes first.
abbrev pub place_of_record : LineRecord → ℕ
place_of_record one = 2 * one.tick + way_place one.way

-- Holds if these records are in order, with none before this place.
abbrev pub InOrder : ℕ → List LineRecord → Type 0
InOrder from [] = Unit {0}
InOrder from (one ∷ more) = (from ≤ place_of_record one) × InOrder (suc (place_of_record one)) more

-- the records that go a way
abbrev pub of_way : Way → List LineRecord → List LineRecord
of_way way records = filter (λ one. is_way way one.way) records

-- Holds if these are the records of two lines, in the order of a capture.
pub record AreRecords (a b : List Tick) (records : List LineRecord) : Type 0 where
  pub a_are : of_way A records ≡ records_of A a
  pub b_are : of_way B records ≡ records_of B b
  pub in_order : InOrder 0 records

-- the text of a record in a capture that counts nanoseconds since tick 0
abbrev pub record_text : RecordForm → Rate → LineRecord → List ℕ
record_text Pcap rate one = written_packet one.way (tick_start rate 1 one.tick) one.bytes
record_text Text rate one = written_line (tick_start rate 1 one.tick) one.bytes

-- what comes before all records
abbrev pub file_front : RecordForm → List ℕ
file_front Pcap = FILE_HEADER
file_front Text = []

-- the texts of these records, one after the other
abbrev pub records_text : RecordForm → Rate → List LineRecord → List ℕ
records_text form rate records = flat_map (record_text form rate) records

-- Holds if this text is the capture of two lines at a rate.
pub record IsRecorded (form : RecordForm) (rate : Rate) (a b : List Tick) (text : List ℕ) : Type 0 where
  pub records : List LineRecord
  pub are : AreRecords a b records
  pub text_is : text ≡ file_front form ++ records_text form rate records
