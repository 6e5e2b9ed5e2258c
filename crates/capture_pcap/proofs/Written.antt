-- The header of a packet that is written, and the data after it, are a packet.
use Rattle.byteorder.specs.{Endian.big_bytes, Endian.little_bytes, Numbers.little_number-reads_back}
use Rattle.byteorder.specs.Numbers.{length-bytes_low_first, length-bytes_high_first}
use Rattle.capture_pcap.specs.{Pcap.IsPcapPacket, Record.seen_of, Record.seen_bytes, Words.number}
use Rattle.capture_pcap.specs.Writing.{written_clock, data_event, AppendsNumber, AppendsFour}
use Rattle.capture_pcap.specs.Writing.{packet_front, written_packet as as_written}
use Rattle.capture_pcap.specs.declared.words.Order.TheVariants.{Little}
use Rattle.line_stamps.specs.declared.capture.Way.{Way, TheVariants.A, TheVariants.B}
use Rattle.std.proofs.Common.{◌≡◌, ◌∙◌, ℕ, ◌+◌, ◌*◌, ◌/◌, ◌%◌, ◌++◌, ◌∷◌, [], List, length, true}
use Rattle.std.proofs.Common.{refl, ap, sym, subst, append-nil, ◌<◌, ◌^◌, arith, append_assoc}

data_seen : (start : ℕ) (way : Way) (payload : List ℕ)
    → seen_bytes start way true payload ≡ seen_of start (data_event way) payload
data_seen start A payload = refl
data_seen start B payload = refl

-- the parts of a packet, as the writer and as the format have them
regrouped : (a b c d e f g p : List ℕ)
    → ((((((a ++ b) ++ c) ++ d) ++ e) ++ f) ++ g) ++ p
    ≡ ((a ++ b) ++ (c ++ d)) ++ (((e ++ f) ++ g) ++ p)
regrouped a b c d e f g p =
    append_assoc (((((a ++ b) ++ c) ++ d) ++ e) ++ f) g p
    ∙ append_assoc ((((a ++ b) ++ c) ++ d) ++ e) f (g ++ p)
    ∙ append_assoc (((a ++ b) ++ c) ++ d) e (f ++ (g ++ p))
    ∙ ap (λ x. x ++ (e ++ (f ++ (g ++ p)))) (append_assoc (a ++ b) c d)
    ∙ ap (λ x. ((a ++ b) ++ (c ++ d)) ++ x)
    (sym (append_assoc (e ++ f) g p ∙ append_assoc e f (g ++ p)))

pub written_packet : (way : Way) (start whole rest count : ℕ)
    (none h1 h2 h3 h4 h5 h6 : List ℕ) → none ≡ []
    → AppendsNumber none h1 whole → AppendsNumber h1 h2 rest
    → AppendsNumber h2 h3 (count + 12) → AppendsNumber h3 h4 (count + 12)
    → AppendsFour h4 h5 → AppendsFour h5 h6
    → start ≡ whole * 1000000000 + rest
    → (payload : List ℕ) → length payload ≡ count
    → IsPcapPacket written_clock ((h6 ++ data_event way ∷ 0 ∷ 0 ∷ 0 ∷ []) ++ payload)
    (seen_bytes start way true payload)
written_packet way start whole rest count none h1 h2 h3 h4 h5 h6 e a b c d f g time payload long =
    record {
      time = a.field ++ b.field;
      lengths = c.field ++ d.field;
      body = ((f.field ++ g.field) ++ data_event way ∷ 0 ∷ 0 ∷ 0 ∷ []) ++ payload;
      start = start;
      count = count;
      is = ap (λ x. (x ++ data_event way ∷ 0 ∷ 0 ∷ 0 ∷ []) ++ payload) spelled
          ∙ regrouped a.field b.field c.field d.field f.field g.field
          (data_event way ∷ 0 ∷ 0 ∷ 0 ∷ []) payload;
      time_is = record {
        seconds = a.field;
        fraction = b.field;
        is = refl;
        seconds_long = a.long;
        fraction_long = b.long;
        start_is = omega (arith, time, a.value, b.value);
      };
      lengths_are = record {
        captured = c.field;
        original = d.field;
        is = refl;
        captured_long = c.long;
        original_long = d.long;
        captured_is = omega (arith, c.value);
        original_is = omega (arith, d.value);
      };
      record_is = record {
        seconds = f.field;
        microseconds = g.field;
        event = data_event way;
        others = 0 ∷ 0 ∷ 0 ∷ [];
        payload = payload;
        is = refl;
        seconds_long = f.long;
        microseconds_long = g.long;
        others_long = refl;
        payload_long = long;
        items_are = data_seen start way payload;
      };
    }
  where
    spelled : h6 ≡ ((((a.field ++ b.field) ++ c.field) ++ d.field) ++ f.field) ++ g.field
    spelled = g.is ∙ ap (λ x. x ++ g.field) (f.is ∙ ap (λ x. x ++ f.field)
        (d.is ∙ ap (λ x. x ++ d.field) (c.is ∙ ap (λ x. x ++ c.field)
        (b.is ∙ ap (λ x. x ++ b.field) (a.is ∙ ap (λ x. x ++ a.field) e)))))

-- A list that was `front`, and has grown by `more`, is `front` and then `more`.
grown : (old new front more : List ℕ) → new ≡ old ++ more → old ≡ front → new ≡ front ++ more
grown old new front more is e = is ∙ ap (λ x. x ++ more) e

pub written_front : (way : Way) (start count : ℕ) (none h1 h2 h3 h4 h5 h6 all : List ℕ) → none ≡ []
    → h1 ≡ none ++ little_bytes 4 (start / 1000000000)
    → h2 ≡ h1 ++ little_bytes 4 (start % 1000000000) → h3 ≡ h2 ++ little_bytes 4 (count + 12)
    → h4 ≡ h3 ++ little_bytes 4 (count + 12) → h5 ≡ h4 ++ big_bytes 4 (start / 1000000000)
    → h6 ≡ h5 ++ big_bytes 4 (start % 1000000000 / 1000)
    → all ≡ h6 ++ data_event way ∷ 0 ∷ 0 ∷ 0 ∷ [] → all ≡ packet_front way start count
written_front way start count none h1 h2 h3 h4 h5 h6 all e a b c d f g h =
    grown _ _ _ _ h (grown _ _ _ _ g (grown _ _ _ _ f (grown _ _ _ _ d (grown _ _ _ _ c
    (grown _ _ _ _ b (grown _ _ _ _ a e))))))

number_added : (old : List ℕ) (n : ℕ) → n < 2 ^ 32 → AppendsNumber old (old ++ little_bytes 4 n) n
number_added old n fits = record {
  field = little_bytes 4 n;
  is = refl;
  long = length-bytes_low_first 0 4 n;
  value = subst (λ l. number Little l ≡ n) (append-nil (little_bytes 4 n))
      (little_number-reads_back 4 n [] fits);
}

four_added : (old : List ℕ) (n : ℕ) → AppendsFour old (old ++ big_bytes 4 n)
four_added old n = record {
  field = big_bytes 4 n;
  is = refl;
  long = length-bytes_high_first 4 n;
}

-- What is written for a record is a packet of its bytes.
pub packet_is : (way : Way) (start : ℕ) (bytes : List ℕ) → start < 2 ^ 32 * 1000000000
    → length bytes + 12 < 2 ^ 32
    → IsPcapPacket written_clock (as_written way start bytes) (seen_bytes start way true bytes)
packet_is way start bytes early few =
    written_packet way start (start / 1000000000) (start % 1000000000) (length bytes) [] _ _ _ _ _ _
    refl (number_added [] (start / 1000000000) (omega arith))
    (number_added _ (start % 1000000000) (omega arith)) (number_added _ (length bytes + 12) few)
    (number_added _ (length bytes + 12) few) (four_added _ (start / 1000000000))
    (four_added _ (start % 1000000000 / 1000)) (omega arith) bytes refl
