-- Numbers of four and of two bytes, in the order of a file.
use Rattle.std.specs.Prelude.{ℕ, List, Bool, ◌==◌, ◌&&◌, slice_index}
use Rattle.byteorder.specs.Endian.{big_number, little_number}
use Rattle.capture_pcap.specs.declared.words.Order.{Order}
use Rattle.capture_pcap.specs.declared.words.Order.TheVariants.{Big, Little}
use Rattle.capture_pcap.specs.declared.words.Resolution.{Resolution}
use Rattle.capture_pcap.specs.declared.words.Resolution.TheVariants.{Microseconds, Nanoseconds}

-- the number in the first four bytes
abbrev pub number : Order → List ℕ → ℕ
number Big word = big_number 4 word
number Little word = little_number 4 word

-- how many nanoseconds a unit of this resolution is
abbrev pub nanoseconds : Resolution → ℕ
nanoseconds Microseconds = 1000
nanoseconds Nanoseconds = 1

-- the number in the first two bytes
abbrev pub short_number : Order → List ℕ → ℕ
short_number Big field = big_number 2 field
short_number Little field = little_number 2 field

-- whether a field of four bytes has these bytes
abbrev pub is_field : ℕ → ℕ → ℕ → ℕ → List ℕ → Bool
is_field a b c d field = (slice_index field 0 == a) && (slice_index field 1 == b)
    && (slice_index field 2 == c) && (slice_index field 3 == d)
