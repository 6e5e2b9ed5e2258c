-- The records of two lines, tick by tick: a second view of Records.antt.
use Rattle.std.specs.Prelude.{◌≡◌, ℕ, zero, suc, List, [], ◌∷◌, ◌++◌}
use Rattle.hex.specs.Hex.{encode_lower}
use Rattle.yasir_ticks.specs.declared.tick.Tick.{Tick}
use Rattle.yasir_ticks.specs.declared.tick.Tick.TheVariants.{Silent, Byte}
use Rattle.line_stamps.specs.declared.capture.Way.{Way}
use Rattle.line_stamps.specs.declared.capture.Way.TheVariants.{A, B}
use Rattle.line_capture.specs.Records.{LineRecord, record_at, most_further, records_text}
use Rattle.line_capture.specs.declared.records.RecordForm.{RecordForm}
use Rattle.line_capture.specs.declared.records.RecordForm.TheVariants.{Pcap, Text}
use Rattle.line_capture.specs.declared.records.RecordTexts.{RecordTexts}

-- the record that walk_begins in the first of these ticks, if one does
abbrev pub walk_begins : Way → ℕ → List Tick → ℕ → List LineRecord
walk_begins way tick [] room = []
walk_begins way tick (Silent ∷ line) room = []
walk_begins way tick (Byte b ∷ line) zero = record_at way tick b line ∷ []
walk_begins way tick (Byte b ∷ line) (suc room) = []

-- how many more bytes fit into the current record after the first of these ticks
abbrev pub room_behind : List Tick → ℕ → ℕ
room_behind [] room = 0
room_behind (Silent ∷ line) room = 0
room_behind (Byte b ∷ line) zero = most_further
room_behind (Byte b ∷ line) (suc room) = room

-- a list without its first tick
abbrev pub rest_of : List Tick → List Tick
rest_of [] = []
rest_of (t ∷ line) = line

-- the records that begin in this many ticks of two lines
abbrev pub records_walked : ℕ → ℕ → List Tick → List Tick → ℕ → ℕ → List LineRecord
records_walked zero tick a b room_a room_b = []
records_walked (suc n) tick a b room_a room_b = walk_begins A tick a room_a ++ (walk_begins B tick b room_b
    ++ records_walked n (suc tick) (rest_of a) (rest_of b) (room_behind a room_a) (room_behind b room_b))

-- the bytes of a record, as the form writes them
abbrev pub text_of_record : RecordForm → List ℕ → List ℕ
text_of_record Pcap bytes = bytes
text_of_record Text bytes = encode_lower bytes

-- Holds if the new text is the old one, followed by this one.
pub record WalkAdds (old new : RecordTexts) (more : List ℕ) : Type 0 where
  pub form : new.form ≡ old.form
  pub rate : new.rate ≡ old.rate
  pub text : new.text.items ≡ old.text.items ++ more

-- Holds if the record that walk_begins in a tick of a way was added, if one does, and this many more
-- bytes fit into the current record after the tick.
pub record AddsAt (old new : RecordTexts) (way : Way) (tick : ℕ) (line : List Tick)
    (room after : ℕ) : Type 0 where
  pub adds : WalkAdds old new (records_text old.form old.rate (walk_begins way tick line room))
  pub room_is : after ≡ room_behind line room
