-- Where a reader gets to over the parts of a right file.
use Rattle.capture_pcap.proofs.Bodies.{record_walk}
use Rattle.capture_pcap.proofs.Walked.{Walks, one_field, both, four_of}
use Rattle.capture_pcap.specs.Pcap.{IsMagic, IsPcapHeader, IsTime, AreLengths, IsPcapPacket, ArePackets}
use Rattle.capture_pcap.specs.Pcap.ArePackets.{none, more}
use Rattle.capture_pcap.specs.Pcap.IsMagic.{big_micro, little_micro, big_nano, little_nano}
use Rattle.capture_pcap.specs.PcapStep.{takes_bytes, field_at, byte_at, after_length}
use Rattle.capture_pcap.specs.{PcapStep.after_captured, Record.IsRecord, Words.number}
use Rattle.capture_pcap.specs.declared.body.Body.TheVariants.{Seconds as RtacSeconds}
use Rattle.capture_pcap.specs.declared.stage.Stage.{Stage, TheVariants.Magic}
use Rattle.capture_pcap.specs.declared.stage.Stage.TheVariants.{Free, Link, Seconds, Fraction}
use Rattle.capture_pcap.specs.declared.stage.Stage.TheVariants.{Captured, Original, Packet}
use Rattle.capture_pcap.specs.declared.words.Clock.{Clock}
use Rattle.{line_stamps.specs.declared.seen.Seen.Seen, std.proofs.Common.◌≡◌, std.proofs.Common.◌∙◌}
use Rattle.std.proofs.Common.{ℕ, ◌+◌, ◌-◌, ◌<◌, List, [], ◌++◌, length, None, Ok, refl, ap, sym}
use Rattle.std.proofs.{Common.subst, Common.arith, Common.lt-ltb, Common.le-ltb, lemmas.Bool.eq-eqb}

-- ---- the header

magic_step : (clock : Clock) (word : List ℕ) → IsMagic clock word
    → field_at Magic word ≡ Ok (Free clock 0, None)
unfolding field_at
magic_step clock word big_micro = refl
magic_step clock word little_micro = refl
magic_step clock word big_nano = refl
magic_step clock word little_nano = refl

magic_long : (clock : Clock) (word : List ℕ) → IsMagic clock word → length word ≡ 4
magic_long clock word big_micro = refl
magic_long clock word little_micro = refl
magic_long clock word big_nano = refl
magic_long clock word little_nano = refl

free_on : (clock : Clock) (before : ℕ) (field : List ℕ) → before < 3 → length field ≡ 4
    → Walks (Free clock before) field (Free clock (before + 1)) []
unfolding field_at
free_on clock before field few four =
    one_field (Free clock before) (Free clock (before + 1)) field None refl four
    (rw (lt-ltb before 3 few) refl)

free_last : (clock : Clock) (field : List ℕ) → length field ≡ 4
    → Walks (Free clock 3) field (Link clock) []
unfolding field_at
free_last clock field four = one_field (Free clock 3) (Link clock) field None refl four refl

free_walk : (clock : Clock) (bytes : List ℕ) → length bytes ≡ 16
    → Walks (Free clock 0) bytes (Link clock) []
free_walk clock bytes long =
    let one = four_of bytes 12 long in
    let two = four_of one.rest 8 one.rest_long in
    let three = four_of two.rest 4 two.rest_long in
    let whole : bytes ≡ one.first ++ (two.first ++ (three.first ++ three.rest)) =
    one.is ∙ ap (λ x. one.first ++ x) (two.is ∙ ap (λ x. two.first ++ x) three.is) in
    let Q : List ℕ → Type 0 = λ x. Walks (Free clock 0) x (Link clock) [] in
    subst Q (sym whole)
    (both (Free clock 0) (Free clock 1) (Link clock) one.first _ [] []
    (free_on clock 0 one.first (omega arith) one.first_long)
    (both (Free clock 1) (Free clock 2) (Link clock) two.first _ [] []
    (free_on clock 1 two.first (omega arith) two.first_long)
    (both (Free clock 2) (Free clock 3) (Link clock) three.first three.rest [] []
    (free_on clock 2 three.first (omega arith) three.first_long)
    (free_last clock three.rest three.rest_long))))

header_walk : (clock : Clock) (header : List ℕ) → IsPcapHeader clock header
    → Walks Magic header (Seconds clock) []
unfolding field_at
header_walk clock header h =
    let Q : List ℕ → Type 0 = λ x. Walks Magic x (Seconds clock) [] in
    subst Q (sym h.is)
    (both Magic (Link clock) (Seconds clock) (h.magic ++ h.free) h.link [] []
    (both Magic (Free clock 0) (Link clock) h.magic h.free [] []
    (one_field Magic (Free clock 0) h.magic None refl (magic_long clock h.magic h.magic_is)
    (magic_step clock h.magic h.magic_is))
    (free_walk clock h.free h.free_long))
    (one_field (Link clock) (Seconds clock) h.link None refl h.link_long
    (rw (eq-eqb (number clock.order h.link) 250 h.link_is) refl)))

-- ---- packets

time_walk : (clock : Clock) (time : List ℕ) (start : ℕ) → IsTime clock time start
    → Walks (Seconds clock) time (Captured clock start) []
unfolding field_at
time_walk clock time start t =
    let first : ℕ = number clock.order t.seconds in
    let Q : List ℕ → Type 0 = λ x. Walks (Seconds clock) x (Captured clock start) [] in
    subst Q (sym t.is)
    (both (Seconds clock) (Fraction clock first) (Captured clock start) t.seconds t.fraction [] []
    (one_field (Seconds clock) (Fraction clock first) t.seconds None refl t.seconds_long refl)
    (one_field (Fraction clock first) (Captured clock start) t.fraction None refl
    t.fraction_long (ap (λ s. Ok (Captured clock s, None)) (sym t.start_is))))

captured_step : (clock : Clock) (start size count : ℕ) → size ≡ 12 + count
    → after_captured clock start size ≡ Ok (Original clock start (12 + count), None)
captured_step clock start size count e =
    rw (le-ltb size 12 (omega (arith, e)), e) refl

original_step : (clock : Clock) (start size count : ℕ) → size ≡ 12 + count
    → after_length clock start (12 + count) size
    ≡ Ok (Packet clock (RtacSeconds start count), None)
original_step clock start size count e =
    let taken : 12 + count - 12 ≡ count = omega arith in
    rw (eq-eqb size (12 + count) e, taken) refl

lengths_walk : (clock : Clock) (lengths : List ℕ) (start count : ℕ)
    → AreLengths clock lengths (12 + count)
    → Walks (Captured clock start) lengths (Packet clock (RtacSeconds start count)) []
unfolding field_at
lengths_walk clock lengths start count l =
    let next : Stage = Packet clock (RtacSeconds start count) in
    let Q : List ℕ → Type 0 = λ x. Walks (Captured clock start) x next [] in
    subst Q (sym l.is)
    (both (Captured clock start) (Original clock start (12 + count)) next l.captured l.original []
    []
    (one_field (Captured clock start) (Original clock start (12 + count)) l.captured None refl
    l.captured_long
    (captured_step clock start (number clock.order l.captured) count l.captured_is))
    (one_field (Original clock start (12 + count)) next l.original None refl l.original_long
    (original_step clock start (number clock.order l.original) count l.original_is)))

pub body_walk : (clock : Clock) (start count : ℕ) (packet : List ℕ) (items : List Seen)
    → IsRecord start count packet items
    → Walks (Packet clock (RtacSeconds start count)) packet (Seconds clock) items
unfolding field_at
body_walk clock start count packet items r = record {
  is = record_walk takes_bytes field_at byte_at (Packet clock) (Seconds clock) (λ body. refl)
      (λ body field. refl) (λ body b. refl) start count packet items r;
}

packet_walk : (clock : Clock) (packet : List ℕ) (items : List Seen) → IsPcapPacket clock packet items
    → Walks (Seconds clock) packet (Seconds clock) items
packet_walk clock packet items p =
    let body : Stage = Packet clock (RtacSeconds p.start p.count) in
    let Q : List ℕ → Type 0 = λ x. Walks (Seconds clock) x (Seconds clock) items in
    subst Q (sym p.is)
    (both (Seconds clock) body (Seconds clock) (p.time ++ p.lengths) p.body [] items
    (both (Seconds clock) (Captured clock p.start) body p.time p.lengths [] []
    (time_walk clock p.time p.start p.time_is)
    (lengths_walk clock p.lengths p.start p.count p.lengths_are))
    (body_walk clock p.start p.count p.body items p.record_is))

pub packets_walk : (clock : Clock) (file : List ℕ) (items : List Seen)
    → ArePackets clock file items → Walks Magic file (Seconds clock) items
packets_walk clock file items (none _ h) = header_walk clock file h
packets_walk clock file items (more front packet these others p l) =
    both Magic (Seconds clock) (Seconds clock) front packet these others
    (packets_walk clock front these p) (packet_walk clock packet others l)
