-- The bytes of a line's records are given for the bytes of its ticks.
use Rattle.line_capture.proofs.RecordBytes.{no_room}
use Rattle.line_capture.specs.Records.{LineRecord, leading, records_from, records_of, most_further}
use Rattle.line_stamps.specs.Giving.{ByteAt, bytes_from, tick_start, StampsGive, AreStampsGiven}
use Rattle.line_stamps.specs.declared.capture.{CaptureByte.CaptureByte, Way.Way}
use Rattle.line_stamps.specs.declared.rate.Rate.{Rate}
use Rattle.std.proofs.Common.{◌≡◌, ◌∙◌, ℕ, zero, suc, ◌+◌, ◌<◌, ◌≤◌, List, [], ◌∷◌, ◌++◌, Bool}
use Rattle.std.proofs.Common.{true, false, Option, Some, None, refl, sym, ap, subst, arith, drop}
use Rattle.std.specs.List.{flat_map}
use Rattle.yasir_ticks.specs.declared.tick.Tick.{Tick, TheVariants.Silent, TheVariants.Byte}

-- bytes of a record that starts then, and whether the first of these is the record's first byte
abbrev pub record_bytes : ℕ → Way → Bool → List ℕ → List CaptureByte
record_bytes start way first [] = []
record_bytes start way first (byte ∷ bytes) =
    record { way = way; start = start; first = first; byte = byte }
    ∷ record_bytes start way false bytes

module _ (rate : Rate) where
  abbrev pub bytes_of_record : LineRecord → List CaptureByte
  bytes_of_record one = record_bytes (tick_start rate 1 one.tick) one.way true one.bytes

  abbrev pub bytes_of_records : List LineRecord → List CaptureByte
  bytes_of_records records = flat_map bytes_of_record records

  -- If there is room for more bytes, a record was begun, and its last byte is in the tick before.
  abbrev IsOpen : ℕ → Option ℕ → ℕ → Type 0
  IsOpen room before tick = 0 < room → (p : ℕ) × (before ≡ Some p) × (tick ≡ suc p)

  none_open : (before : Option ℕ) (tick : ℕ) → IsOpen 0 before tick
  none_open before tick some = absurd (omega arith)

  still_open : (room tick : ℕ) → IsOpen room (Some tick) (suc tick)
  still_open room tick some = (tick, refl, refl)

  first_gives : (before : Option ℕ) (way : Way) (tick byte : ℕ)
      → StampsGive rate 1 0 before (record { tick = tick; byte = byte })
      (record { way = way; start = tick_start rate 1 tick; first = true; byte = byte })
  first_gives None way tick byte = omega arith
  first_gives (Some p) way tick byte = (λ first. omega arith, λ further. cc)

  later_gives : (way : Way) (start tick byte p : ℕ) → tick ≡ suc p
      → StampsGive rate 1 0 (Some p) (record { tick = tick; byte = byte })
      (record { way = way; start = start; first = false; byte = byte })
  later_gives way start tick byte p is = (λ first. cc, λ further. is)

  given_from : (way : Way) (tick : ℕ) (line : List Tick) (room : ℕ) (before : Option ℕ) (start : ℕ)
      → IsOpen room before tick
      → AreStampsGiven rate 1 0 before (bytes_from tick line)
      (record_bytes start way false (leading line room)
      ++ bytes_of_records (records_from way tick line room))
  given_from way tick [] room before start opened = tt
  given_from way tick (Silent ∷ line) room before start opened =
      let later = given_from way (suc tick) line 0 before start (none_open before (suc tick)) in
      subst (λ (l : List ℕ). AreStampsGiven rate 1 0 before (bytes_from (suc tick) line)
      (record_bytes start way false l ++ bytes_of_records (records_from way (suc tick) line 0)))
      (no_room line) later
  given_from way tick (Byte b ∷ line) zero before start opened =
      let later = given_from way (suc tick) line most_further (Some tick) (tick_start rate 1 tick)
      (still_open most_further tick) in
      (refl, first_gives before way tick b, later)
  given_from way tick (Byte b ∷ line) (suc room) before start opened =
      let at = opened (omega arith) in
      let later = given_from way (suc tick) line room (Some tick) start (still_open room tick) in
      let here : StampsGive rate 1 0 before (record { tick = tick; byte = b })
      (record { way = way; start = start; first = false; byte = b }) =
      subst (λ (x : Option ℕ). StampsGive rate 1 0 x (record { tick = tick; byte = b })
      (record { way = way; start = start; first = false; byte = b })) (sym at.1)
      (later_gives way start tick b at.0 at.2) in
      (refl, here, later)

  pub given_line : (way : Way) (line : List Tick)
      → AreStampsGiven rate 1 0 None (bytes_from 0 line) (bytes_of_records (records_of way line))
  given_line way line =
      subst (λ (l : List ℕ). AreStampsGiven rate 1 0 None (bytes_from 0 line)
      (record_bytes 0 way false l ++ bytes_of_records (records_of way line))) (no_room line)
      (given_from way 0 line 0 None 0 (none_open None 0))

-- ---- from a later tick on

-- The first byte, if there is one, is in this tick or after it.
abbrev pub BeginsBehind : ℕ → List ByteAt → Type 0
BeginsBehind tick [] = Unit {0}
BeginsBehind tick (x ∷ xs) = tick ≤ x.tick

later_begins : (n : ℕ) (line : List Tick) → BeginsBehind n (bytes_from n line)
later_begins n [] = tt
later_begins n (Silent ∷ line) = weaker n (bytes_from (suc n) line) (later_begins (suc n) line)
  where
    weaker : (n : ℕ) (xs : List ByteAt) → BeginsBehind (suc n) xs → BeginsBehind n xs
    weaker n [] h = tt
    weaker n (x ∷ xs) h = omega arith
later_begins n (Byte b ∷ line) = omega arith

pub from_later : (n k : ℕ) (line : List Tick) → BeginsBehind (n + k) (bytes_from n line)
    → bytes_from (n + k) (drop k line) ≡ bytes_from n line
from_later n zero line begins =
    ap (λ (i : ℕ). bytes_from i line) (let e : n + 0 ≡ n = omega arith in e)
from_later n (suc k) [] begins = refl
from_later n (suc k) (Silent ∷ line) begins =
    let e : n + suc k ≡ suc n + k = omega arith in
    ap (λ (i : ℕ). bytes_from i (drop k line)) e
    ∙ from_later (suc n) k line (subst (λ (i : ℕ). BeginsBehind i (bytes_from (suc n) line)) e begins)
from_later n (suc k) (Byte b ∷ line) begins = absurd (omega arith)
