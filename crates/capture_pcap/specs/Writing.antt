-- The parts from which a pcap file is written.
use Rattle.std.specs.Prelude.{◌≡◌, ℕ, ◌+◌, ◌/◌, ◌%◌, ◌++◌, List, [], ◌∷◌, length}
use Rattle.byteorder.specs.Endian.{big_bytes, little_bytes}
use Rattle.line_stamps.specs.declared.capture.Way.{Way}
use Rattle.line_stamps.specs.declared.capture.Way.TheVariants.{A, B}
use Rattle.capture_pcap.specs.Words.{number}
use Rattle.capture_pcap.specs.declared.words.Clock.{Clock}
use Rattle.capture_pcap.specs.declared.words.Order.TheVariants.{Little}
use Rattle.capture_pcap.specs.declared.words.Resolution.TheVariants.{Nanoseconds}

-- the clock of a file that is written
abbrev pub written_clock : Clock
written_clock = record { order = Little; resolution = Nanoseconds }

-- The header of a file that is written: the magic number of times in nanoseconds, version 2.4, eight
-- bytes that are 0, packets of at most 262,144 bytes, and the link type.
abbrev pub file_header : List ℕ
file_header =
    (((((little_bytes 4 0xA1B23C4D ++ little_bytes 2 2) ++ little_bytes 2 4)
    ++ little_bytes 8 0) ++ little_bytes 4 262144) ++ little_bytes 4 250)

-- Holds if new is old and then a field of four bytes with this number.
pub record AppendsNumber (old new : List ℕ) (n : ℕ) : Type 0 where
  pub field : List ℕ
  pub is : new ≡ old ++ field
  pub long : length field ≡ 4
  pub value : number Little field ≡ n

-- Holds if new is old and then a field of four bytes.
pub record AppendsFour (old new : List ℕ) : Type 0 where
  pub field : List ℕ
  pub is : new ≡ old ++ field
  pub long : length field ≡ 4

-- the event that comes before data of this way
abbrev pub data_event : Way → ℕ
data_event A = 1
data_event B = 2

-- What comes before this many bytes of data that go this way and start at this time, in
-- nanoseconds: the time, the captured and the original length, and the header of an RTAC record,
-- with its time in microseconds, the event, no control line and no footer.
abbrev pub packet_front : Way → ℕ → ℕ → List ℕ
packet_front way start count =
    ((((((little_bytes 4 (start / 1000000000) ++ little_bytes 4 (start % 1000000000))
    ++ little_bytes 4 (count + 12)) ++ little_bytes 4 (count + 12))
    ++ big_bytes 4 (start / 1000000000)) ++ big_bytes 4 (start % 1000000000 / 1000))
    ++ data_event way ∷ 0 ∷ 0 ∷ 0 ∷ [])

-- a packet with these bytes of data
abbrev pub written_packet : Way → ℕ → List ℕ → List ℕ
written_packet way start bytes = packet_front way start (length bytes) ++ bytes
