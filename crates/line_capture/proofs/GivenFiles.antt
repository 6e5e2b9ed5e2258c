-- What is given is a capture of the records of its lines.
use Rattle.capture_pcap.proofs.Written.{packet_is}
use Rattle.capture_pcap.specs.Pcap.{IsPcapHeader, ArePackets, IsCapture, ArePackets.none as no_packets}
use Rattle.capture_pcap.specs.Pcap.{ArePackets.more as more_packets, IsCapture.pcap}
use Rattle.capture_pcap.specs.Record.{seen_byte, seen_bytes}
use Rattle.capture_pcap.specs.{Writing.written_clock, declared.writer.TheConstants.FILE_HEADER}
use Rattle.capture_text.proofs.Written.{written_record}
use Rattle.capture_text.specs.CaptureText.{AreLines, IsLine, recorded, capture_byte}
use Rattle.capture_text.specs.CaptureText.AreLines.{none as no_lines, more as more_lines}
use Rattle.capture_text.specs.CaptureText.{IsContent.nothing, IsContent.stamped, IsLine.plain}
use Rattle.capture_text.specs.{Reader.IsSeenText, Writing.time_front}
use Rattle.hex.specs.Hex.{IsBytes, encode_lower}
use Rattle.line_capture.proofs.GivenRecords.{record_bytes, bytes_of_record, bytes_of_records}
use Rattle.line_capture.proofs.RecordBytes.{start_fits}
use Rattle.line_capture.specs.Captures.{is_way, way_bytes, byte_of, NoError}
use Rattle.line_capture.specs.Records.{LineRecord, leading, records_from, records_of, of_way}
use Rattle.line_capture.specs.Records.{most_further, records_text, file_front}
use Rattle.line_capture.specs.declared.records.RecordForm.TheVariants.{Pcap, Text}
use Rattle.line_capture.specs.declared.words.Ways.TheVariants.{Both}
use Rattle.line_stamps.specs.{Giving.tick_start, declared.capture.CaptureByte.CaptureByte}
use Rattle.line_stamps.specs.declared.capture.Way.{Way, TheVariants.A, TheVariants.B}
use Rattle.line_stamps.specs.declared.{rate.Rate.Rate, seen.Seen.Seen, seen.Seen.TheVariants.Byte}
use Rattle.std.proofs.Common.{◌≡◌, ◌∙◌, ℕ, zero, suc, ◌+◌, ◌<◌, ◌≤◌, List, [], ◌∷◌, ◌++◌, map, Bool}
use Rattle.std.proofs.Common.{true, false, cond, refl, sym, ap, subst, arith, length, append_assoc}
use Rattle.std.proofs.{Common.append-nil, lemmas.List.Elements.filter_map-append}
use Rattle.tick_drive.specs.Input.{max_ticks}
use Rattle.yasir_ticks.specs.{Ticks.AreTicks, declared.tick.Tick.Tick}
use Rattle.yasir_ticks.specs.declared.tick.Tick.TheVariants.{Silent, Byte as ByteTick}

-- ---- what is true of each record of a line

-- A record has bytes, not too many, and begins early enough.
pub record IsRight (one : LineRecord) : Type 0 where
  pub early : one.tick < max_ticks
  pub some : 0 < length one.bytes
  pub few : length one.bytes ≤ 65536
  pub bytes : IsBytes one.bytes

abbrev pub AreRight : List LineRecord → Type 0
AreRight [] = Unit {0}
AreRight (one ∷ more) = IsRight one × AreRight more

leading-few : (line : List Tick) (n : ℕ) → length (leading line n) ≤ n
leading-few [] n = omega arith
leading-few (Silent ∷ line) n = omega arith
leading-few (ByteTick b ∷ line) zero = omega arith
leading-few (ByteTick b ∷ line) (suc n) = let h = leading-few line n in omega arith

bytes-cons : (b : ℕ) (bytes : List ℕ) → b < 256 → IsBytes bytes → IsBytes (b ∷ bytes)
bytes-cons b bytes fits more zero = fits
bytes-cons b bytes fits more (suc i) = more i

bytes-none : IsBytes []
bytes-none i = omega arith

leading-bytes : (line : List Tick) (n : ℕ) → AreTicks line → IsBytes (leading line n)
leading-bytes [] n ticks = bytes-none
leading-bytes (Silent ∷ line) n ticks = bytes-none
leading-bytes (ByteTick b ∷ line) zero ticks = bytes-none
leading-bytes (ByteTick b ∷ line) (suc n) ticks =
    bytes-cons b (leading line n) ticks.0 (leading-bytes line n ticks.1)

right_from : (way : Way) (tick : ℕ) (line : List Tick) (room : ℕ) → AreTicks line
    → tick + length line ≤ max_ticks → AreRight (records_from way tick line room)
right_from way tick [] room ticks few = tt
right_from way tick (Silent ∷ line) room ticks few =
    right_from way (suc tick) line 0 ticks.1 (omega arith)
right_from way tick (ByteTick b ∷ line) zero ticks few =
    let most = leading-few line most_further in (
      record {
        early = omega arith;
        some = omega arith;
        few = omega arith;
        bytes = bytes-cons b (leading line most_further) ticks.0
            (leading-bytes line most_further ticks.1);
      },
      right_from way (suc tick) line most_further ticks.1 (omega arith),
    )
right_from way tick (ByteTick b ∷ line) (suc room) ticks few =
    right_from way (suc tick) line room ticks.1 (omega arith)

pub right_records : (way : Way) (line : List Tick) → AreTicks line → length line ≤ max_ticks
    → AreRight (records_of way line)
right_records way line ticks few = right_from way 0 line 0 ticks (omega arith)

right_split : (one : LineRecord) (more : List LineRecord) (w : Way)
    → (AreRight (of_way A more) → AreRight (of_way B more) → AreRight more)
    → AreRight (cond (is_way A w) (one ∷ of_way A more) (of_way A more))
    → AreRight (cond (is_way B w) (one ∷ of_way B more) (of_way B more))
    → AreRight (one ∷ more)
right_split one more A later a b = (a.0, later a.1 b)
right_split one more B later a b = (b.0, later a b.1)

-- If the records of each way are right, all records are.
pub right_both : (records : List LineRecord) → AreRight (of_way A records)
    → AreRight (of_way B records) → AreRight records
right_both [] a b = tt
right_both (one ∷ more) a b = right_split one more one.way (right_both more) a b

-- ---- the items of a capture

map-append : (x y : List CaptureByte) → map Byte (x ++ y) ≡ map Byte x ++ map Byte y
map-append [] y = refl
map-append (c ∷ x) y = ap (λ l. Byte c ∷ l) (map-append x y)

pub no_errors : (bytes : List CaptureByte) → NoError (map Byte bytes)
no_errors [] = tt
no_errors (c ∷ bytes) = (refl, no_errors bytes)

module _ (start : ℕ) where
  seen-is : (way : Way) (first : Bool) (bytes : List ℕ)
      → seen_bytes start way first bytes ≡ map Byte (record_bytes start way first bytes)
  seen-is way first [] = refl
  seen-is way first (b ∷ bytes) = ap (λ l. seen_byte start way first b ∷ l) (seen-is way false bytes)

  further-is : (bytes : List ℕ) → map (capture_byte start false) bytes ≡ record_bytes start A false bytes
  further-is [] = refl
  further-is (b ∷ bytes) = ap (λ l. capture_byte start false b ∷ l) (further-is bytes)

  recorded-is : (bytes : List ℕ) → recorded start bytes ≡ record_bytes start A true bytes
  recorded-is [] = refl
  recorded-is (b ∷ bytes) = ap (λ l. capture_byte start true b ∷ l) (further-is bytes)

  -- all bytes of a record go its way
  way-all : (first : Bool) (bytes : List ℕ)
      → (way_bytes Both A (map Byte (record_bytes start A first bytes)) ≡ record_bytes start A first bytes)
      × (way_bytes Both B (map Byte (record_bytes start B first bytes)) ≡ record_bytes start B first bytes)
      × (way_bytes Both A (map Byte (record_bytes start B first bytes)) ≡ [])
      × (way_bytes Both B (map Byte (record_bytes start A first bytes)) ≡ [])
  way-all first [] = (refl, refl, refl, refl)
  way-all first (b ∷ bytes) =
      let h = way-all false bytes in (
        ap (λ l. record { way = A; start = start; first = first; byte = b } ∷ l) h.0,
        ap (λ l. record { way = B; start = start; first = first; byte = b } ∷ l) h.1,
        h.2,
        h.3,
      )

-- all records go way A
abbrev pub AreOfA : List LineRecord → Type 0
AreOfA [] = Unit {0}
AreOfA (one ∷ more) = (one.way ≡ A) × AreOfA more

module _ (rate : Rate) where
  -- the bytes of a way are those of its records
  pub way-records : (way : Way) (records : List LineRecord)
      → way_bytes Both way (map Byte (bytes_of_records rate records))
      ≡ bytes_of_records rate (of_way way records)
  way-records way [] = refl
  way-records way (one ∷ more) =
      ap (way_bytes Both way) (map-append (bytes_of_record rate one) (bytes_of_records rate more))
      ∙ filter_map-append (byte_of Both way) (map Byte (bytes_of_record rate one))
      (map Byte (bytes_of_records rate more))
      ∙ ap (λ l. way_bytes Both way (map Byte (bytes_of_record rate one)) ++ l)
      (way-records way more)
      ∙ split way one.way
    where
      split : (w v : Way) → way_bytes Both w (map Byte (record_bytes (tick_start rate 1 one.tick) v true one.bytes))
          ++ bytes_of_records rate (of_way w more)
          ≡ bytes_of_records rate (cond (is_way w v)
          (record { way = v; tick = one.tick; bytes = one.bytes } ∷ of_way w more) (of_way w more))
      split A A = ap (λ l. l ++ bytes_of_records rate (of_way A more)) (way-all (tick_start rate 1 one.tick) true one.bytes).0
      split B B = ap (λ l. l ++ bytes_of_records rate (of_way B more)) (way-all (tick_start rate 1 one.tick) true one.bytes).1
      split A B = ap (λ l. l ++ bytes_of_records rate (of_way A more)) (way-all (tick_start rate 1 one.tick) true one.bytes).2
      split B A = ap (λ l. l ++ bytes_of_records rate (of_way B more)) (way-all (tick_start rate 1 one.tick) true one.bytes).3

  -- ---- packets

  packets_from : (records : List LineRecord) (front : List ℕ) (items : List Seen)
      → ArePackets written_clock front items → AreRight records
      → ArePackets written_clock (front ++ records_text Pcap rate records)
      (items ++ map Byte (bytes_of_records rate records))
  packets_from [] front items packets right =
      subst (λ l. ArePackets written_clock l (items ++ [])) (sym (append-nil front))
      (subst (ArePackets written_clock front) (sym (append-nil items)) packets)
  packets_from (one ∷ more) front items packets right =
      let few = right.0.few in
      let one_is = packet_is one.way (tick_start rate 1 one.tick) one.bytes
      (start_fits rate one.tick right.0.early) (omega arith) in
      let these = seen-is (tick_start rate 1 one.tick) one.way true one.bytes in
      let later = packets_from more _ _ (more_packets front _ items _ packets one_is) right.1 in
      subst (λ l. ArePackets written_clock l (items ++ map Byte (bytes_of_records rate (one ∷ more))))
      (append_assoc front _ (records_text Pcap rate more))
      (subst (ArePackets written_clock _)
      (append_assoc items _ (map Byte (bytes_of_records rate more))
      ∙ ap (λ l. items ++ (l ++ map Byte (bytes_of_records rate more))) these
      ∙ ap (λ l. items ++ l)
      (sym (map-append (bytes_of_record rate one) (bytes_of_records rate more)))) later)

  pub packets_are : (records : List LineRecord) → IsPcapHeader written_clock FILE_HEADER
      → AreRight records
      → IsCapture (file_front Pcap ++ records_text Pcap rate records)
      (map Byte (bytes_of_records rate records))
  packets_are records header right =
      pcap _ _ (record {
        clock = written_clock;
        packets = packets_from records FILE_HEADER [] (no_packets FILE_HEADER header) right;
      })

  -- ---- lines of text

  lines_from : (records : List LineRecord) (front : List ℕ) (items : List CaptureByte)
      → AreLines front items → AreRight records → AreOfA records
      → AreLines (front ++ records_text Text rate records)
      (items ++ bytes_of_records rate records)
  lines_from [] front items lines right all =
      subst (λ l. AreLines l (items ++ [])) (sym (append-nil front))
      (subst (AreLines front) (sym (append-nil items)) lines)
  lines_from (one ∷ more) front items lines right all =
      let start : ℕ = tick_start rate 1 one.tick in
      let early = start_fits rate one.tick right.0.early in
      let one_is = written_record start (time_front start) (omega arith) refl one.bytes
      right.0.some right.0.bytes in
      let line_is : IsLine (time_front start ++ encode_lower one.bytes) (recorded start one.bytes) =
      plain _ _ (stamped _ start _ one_is) in
      let later = lines_from more _ _ (more_lines front _ items _ lines line_is) right.1 all.1 in
      let these : recorded start one.bytes ≡ bytes_of_record rate one =
      recorded-is start one.bytes ∙ ap (λ w. record_bytes start w true one.bytes) (sym all.0) in
      subst (λ l. AreLines l (items ++ bytes_of_records rate (one ∷ more)))
      (append_assoc front _ (records_text Text rate more))
      (subst (AreLines _) (append_assoc items _ (bytes_of_records rate more)
      ∙ ap (λ l. items ++ (l ++ bytes_of_records rate more)) these) later)

  pub lines_are : (records : List LineRecord) → AreRight records → AreOfA records
      → IsSeenText (file_front Text ++ records_text Text rate records)
      (map Byte (bytes_of_records rate records))
  lines_are records right all = record {
    bytes = bytes_of_records rate records;
    right = record {
      ended = records_text Text rate records;
      last = [];
      items_before = bytes_of_records rate records;
      items_last = [];
      text_is = sym (append-nil _);
      items_are = sym (append-nil _);
      lines = lines_from records [] [] no_lines right all;
      last_line = plain _ _ nothing;
    };
    items_are = refl;
  }

none_split : (one : LineRecord) (more : List LineRecord) (w : Way) → one.way ≡ w
    → (of_way B more ≡ [] → AreOfA more)
    → cond (is_way B w) (one ∷ of_way B more) (of_way B more) ≡ [] → (one.way ≡ A) × AreOfA more
none_split one more A is later none = (is, later none)
none_split one more B is later none = cc

-- If no record goes way B, all go way A.
pub none_of_b : (records : List LineRecord) → of_way B records ≡ [] → AreOfA records
none_of_b [] none = tt
none_of_b (one ∷ more) none = none_split one more one.way refl (none_of_b more) none
