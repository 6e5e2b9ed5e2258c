-- A capture that was given is taken as the same ticks.
use Rattle.line_stamps.specs.Giving.{ByteAt, bytes_from, tick_start, AreStampsGiven, IsTakenAs}
use Rattle.line_stamps.specs.{Giving.taken_from, Parts.character, Places.line_of_places}
use Rattle.line_stamps.specs.declared.capture.CaptureByte.{CaptureByte}
use Rattle.std.proofs.Common.{◌≡◌, ◌∙◌, ℕ, zero, suc, ◌+◌, ◌*◌, ◌/◌, ◌<◌, ◌≤◌, min, ⊎_elim, List}
use Rattle.std.proofs.Common.{[], ◌∷◌, ◌++◌, map, drop, true, Some, None, refl, sym, ap, subst}
use Rattle.std.proofs.Common.{arith, append-nil, length-append, length-drop, length}
use Rattle.std.proofs.Math.Nat.{mul-le-mul_right, div-mul-le_self, div-eq_of_lt}
use Rattle.std.proofs.lemmas.{Bool.cases_lt, Nat.le-div}
use Rattle.yasir_ticks.specs.{Ticks.silent, declared.tick.Tick.Tick}
use Rattle.yasir_ticks.specs.declared.tick.Tick.TheVariants.{Silent, Byte as ByteTick}
use Rattle.line_stamps.specs.declared.capture.Way.TheVariants as way
use Rattle.line_stamps.proofs.GivenLines.{given-line, given-free}
use Rattle.line_stamps.specs.declared.{rate.Rate.Rate, seen.Seen.Seen, seen.Seen.TheVariants.Byte}
use Rattle.line_stamps.specs.declared.timing.Timing.{Timing}
use Rattle.command_ends.specs.declared.status.Status.TheVariants as statuses
use Rattle.line_capture.specs.Captures.{Collects, HoldsItems, way_bytes}
use Rattle.line_capture.specs.{Formats.Format, Inputs.Told, Inputs.ReadsInput, Placed.PlacedStopsAt}
use Rattle.line_capture.specs.Records.{LineRecord, AreRecords, records_of}
use Rattle.line_capture.specs.TakenAgain.{both_ways, first_taken, first_tick_again, SameTicks, TakesAgain}
use Rattle.line_capture.specs.Takes.{CaptureHeld, TakesCapture, TakesRead, WritesTaken, WritesAll, outcome_of}
use Rattle.line_capture.specs.Takes.{stop_outcome, or_else, read_outcome, timing_for, origin_of}
use Rattle.line_capture.specs.Takes.{is_whole_capture, TakesCapture.no_memory as no_room, TakesCapture.read as was_read}
use Rattle.line_capture.specs.Takes.TakesRead.{no_memory, kept as was_kept}
use Rattle.line_capture.specs.Takes.WritesTaken.{written, failed}
use Rattle.line_capture.specs.declared.bad_capture.BadCapture.{BadCapture as BadCaptureOf}
use Rattle.line_capture.specs.declared.collect.CaptureEnd.{CaptureEnd}
use Rattle.command_ends.proofs.Readable.{all_of_told}
use Rattle.line_capture.specs.declared.collect.CaptureEnd.TheVariants as ends
use Rattle.line_capture.specs.declared.{collect.Kept.Kept, input.ReadEnd.ReadEnd}
use Rattle.line_capture.specs.declared.input.ReadEnd.TheVariants.{Whole, Failed, TooLong}
use Rattle.line_capture.specs.declared.outcome.Outcome.{Outcome, TheVariants.Ended}
use Rattle.line_capture.specs.declared.placing.{LineEnd.LineEnd, LineStop.LineStop}
use Rattle.line_capture.specs.declared.placing.LineStop.TheVariants as stops
use Rattle.line_capture.proofs.EachPlaced.{placed-whole}
use Rattle.line_capture.proofs.GivenFiles.{way-records, no_errors}
use Rattle.line_capture.proofs.GivenRecords.{bytes_of_records, given_line, from_later, BeginsBehind}
use Rattle.line_capture.{proofs.SoundForms.IsSound, specs.Able.IsPlacedWhole, specs.Able.IsTakeable}
use Rattle.line_capture.specs.{Able.timing_of_items, declared.words.Ways.TheVariants.Both}
use Rattle.tick_drive.specs.Input.{max_ticks, max_bytes}

-- ---- where tick 0 is

module _ (rate : Rate) where
  abbrev starts : ℕ → ℕ
  starts tick = tick_start rate 1 tick

  -- A later tick doesn't start before an earlier one.
  starts-rise : (m n : ℕ) → m ≤ n → starts m ≤ starts n
  starts-rise m n le =
      let slow : 300 ≤ rate.baud = rate.slowest in
      let some : 0 < 2 * (rate.baud * 1) = omega arith in
      let h : m * character rate ≤ n * character rate = mul-le-mul_right (character rate) le in
      let x : ℕ = 2 * (m * character rate) + rate.baud * 1 in
      let y : ℕ = 2 * (n * character rate) + rate.baud * 1 in
      let a = div-mul-le_self x (2 * (rate.baud * 1)) in
      let b = le-div (x / (2 * (rate.baud * 1))) y (2 * (rate.baud * 1)) some (omega arith) in
      omega arith

  starts-none : starts 0 ≡ 0
  starts-none =
      let slow : 300 ≤ rate.baud = rate.slowest in
      let none : 0 * character rate ≡ 0 = omega arith in
      let e : (2 * (0 * character rate) + rate.baud * 1) / (2 * (rate.baud * 1)) ≡ 0 =
      div-eq_of_lt (omega arith) in omega arith

  starts-min : (m n : ℕ) → min (0 + starts m) (0 + starts n) ≡ 0 + starts (min m n)
  starts-min m n =
      ⊎_elim
      (λ (h : m < n). let rise = starts-rise m n (omega arith) in
      let e : min m n ≡ m = omega arith in
      let f : starts (min m n) ≡ starts m = ap starts e in omega arith)
      (λ (h : n ≤ m). let rise = starts-rise n m h in
      let e : min m n ≡ n = omega arith in
      let f : starts (min m n) ≡ starts n = ap starts e in omega arith)
      (cases_lt m n)

  -- The time of the first byte of either way is the start of its tick.
  origin-is : (xs ys : List ByteAt) (cs ds : List CaptureByte) → AreStampsGiven rate 1 0 None xs cs
      → AreStampsGiven rate 1 0 None ys ds → origin_of cs ds ≡ 0 + starts (first_taken xs ys)
  origin-is [] [] [] [] a b = let h = starts-none in omega arith
  origin-is (x ∷ xs) [] (c ∷ cs) [] a b = a.1
  origin-is [] (y ∷ ys) [] (d ∷ ds) a b = b.1
  origin-is (x ∷ xs) (y ∷ ys) (c ∷ cs) (d ∷ ds) a b =
      ap (λ n. min n d.start) a.1 ∙ ap (λ n. min (0 + starts x.tick) n) b.1
      ∙ starts-min x.tick y.tick
  origin-is [] ys (c ∷ cs) ds a b = absurd a
  origin-is (x ∷ xs) ys [] ds a b = absurd a
  origin-is xs [] cs (d ∷ ds) a b = absurd b
  origin-is xs (y ∷ ys) cs [] a b = absurd b

first-before-a : (xs ys : List ByteAt) → BeginsBehind (first_taken xs ys) xs
first-before-a [] ys = tt
first-before-a (x ∷ xs) [] = omega arith
first-before-a (x ∷ xs) (y ∷ ys) = omega arith

first-before-b : (xs ys : List ByteAt) → BeginsBehind (first_taken xs ys) ys
first-before-b xs [] = tt
first-before-b [] (y ∷ ys) = omega arith
first-before-b (x ∷ xs) (y ∷ ys) = omega arith

-- Silence after a line adds no bytes.
silence-behind : (n k : ℕ) (line : List Tick) → bytes_from n (line ++ silent k) ≡ bytes_from n line
silence-behind n zero [] = refl
silence-behind n (suc k) [] = silence-behind (suc n) k []
silence-behind n k (Silent ∷ line) = silence-behind (suc n) k line
silence-behind n k (ByteTick b ∷ line) =
    ap (λ l. record { tick = n; byte = b } ∷ l) (silence-behind (suc n) k line)

-- ---- a line

module _ (rate : Rate) (first : ℕ) (line : List Tick) (cs : List CaptureByte)
    (begins : BeginsBehind first (bytes_from 0 line))
    (given : AreStampsGiven rate 1 0 None (bytes_from 0 line) cs) where
  small : 2 * (1 * rate.baud) < character rate
  small = let fast : rate.baud ≤ 115200 = rate.fastest in
      let long : 10 ≤ rate.bits = rate.fewest_bits in omega arith

  from-first : bytes_from first (drop first line) ≡ bytes_from 0 line
  from-first =
      let e : 0 + first ≡ first = omega arith in
      ap (λ (i : ℕ). bytes_from i (drop first line)) (sym e)
      ∙ from_later 0 first line (subst (λ (i : ℕ). BeginsBehind i (bytes_from 0 line)) (sym e) begins)

  pub taken-alike : SameTicks first line (line_of_places (taken_from rate 1 0 first) cs)
  taken-alike =
      let taken : IsTakenAs (taken_from rate 1 0 first) cs (drop first line) =
      given-line rate 1 0 first (omega arith) small (drop first line) cs
      (subst (λ l. AreStampsGiven rate 1 0 None l cs) (sym from-first) given) in
      sym (silence-behind first taken.0 (line_of_places (taken_from rate 1 0 first) cs))
      ∙ ap (bytes_from first) (sym taken.1) ∙ from-first

  -- All of its bytes are placed.
  pub placed-alike : length line ≤ max_ticks → IsPlacedWhole (taken_from rate 1 0 first) cs
  placed-alike few =
      let given' = subst (λ l. AreStampsGiven rate 1 0 None l cs) (sym from-first) given in
      let taken : IsTakenAs (taken_from rate 1 0 first) cs (drop first line) =
      given-line rate 1 0 first (omega arith) small (drop first line) cs given' in
      let free = given-free rate 1 0 first (omega arith) small (drop first line) cs given' in
      let e = ap length taken.1
      ∙ length-append (line_of_places (taken_from rate 1 0 first) cs) (silent taken.0) in
      let d = length-drop first line in
      placed-whole (taken_from rate 1 0 first) refl cs free (omega arith)

-- ---- a run

-- what holds of a run that is done: all was read, and all was placed
record IsAllDone (read : ReadEnd) (end : CaptureEnd) (a b : LineStop) : Type 0 where
  whole : read ≡ Whole
  no_refusal : (bad : BadCaptureOf) → end ≡ ends.Bad bad → ⊥
  a_all : a ≡ stops.AllPlaced
  b_all : b ≡ stops.AllPlaced

read-done : (read : ReadEnd) → read_outcome read ≡ Ended statuses.Done → read ≡ Whole
read-done Whole is = refl
read-done read is = cc

stop-done : (w : _) (placed : ℕ) (stop : LineStop) (other : Outcome)
    → or_else (stop_outcome w placed stop) other ≡ Ended statuses.Done
    → (stop ≡ stops.AllPlaced) × (other ≡ Ended statuses.Done)
stop-done w placed stops.AllPlaced other is = (refl, is)
stop-done w placed stop other is = cc

placed-done : (read : ReadEnd) (end : CaptureEnd) (a b : LineEnd) → ((bad : BadCaptureOf) → end ≡ ends.Bad bad → ⊥)
    → or_else (stop_outcome way.A a.placed a.stop)
    (or_else (stop_outcome way.B b.placed b.stop) (read_outcome read)) ≡ Ended statuses.Done
    → IsAllDone read end a.stop b.stop
placed-done read end a b right is =
    let one = stop-done way.A a.placed a.stop _ is in
    let two = stop-done way.B b.placed b.stop _ one.1 in record {
      whole = read-done read two.1;
      no_refusal = right;
      a_all = one.0;
      b_all = two.0;
    }

all-done : (read : ReadEnd) (end : CaptureEnd) (a b : LineEnd)
    → outcome_of read end a b ≡ Ended statuses.Done → IsAllDone read end a.stop b.stop
all-done read (ends.Bad bad) a b is = cc
all-done read end a b is = placed-done read end a b (λ bad e. cc) is

module _ (format : Format) (sound : IsSound format) (rate : Rate) (a b : List Tick)
    (records : List LineRecord) (are : AreRecords a b records) (file : List ℕ)
    (is : format.is file (map Byte (bytes_of_records rate records))) where
  abbrev items : List Seen
  items = map Byte (bytes_of_records rate records)

  -- All items of a capture that isn't refused are kept.
  kept-items : (held : Kept) (end : CaptureEnd) → Collects format (both_ways rate) true file held end
      → ((bad : BadCaptureOf) → end ≡ ends.Bad bad → ⊥) → HoldsItems Both held items
  kept-items held ends.Whole collects right =
      let taken = collects.1 in
      subst (HoldsItems Both held) (sound.alike file taken.items items taken.is is) taken.holds
  kept-items held ends.Open collects right = let h = collects.0 in cc
  kept-items held (ends.Bad bad) collects right = absurd (right bad refl)

  a-bytes : (held : Kept) → HoldsItems Both held items
      → held.a.items ≡ bytes_of_records rate (records_of way.A a)
  a-bytes held holds = holds.a_is ∙ way-records rate way.A records ∙ ap (bytes_of_records rate) are.a_are

  b-bytes : (held : Kept) → HoldsItems Both held items
      → held.b.items ≡ bytes_of_records rate (records_of way.B b)
  b-bytes held holds = holds.b_is ∙ way-records rate way.B records ∙ ap (bytes_of_records rate) are.b_are

  abbrev first : ℕ
  first = first_tick_again a b

  module _ (held : Kept) (holds : HoldsItems Both held items) where
    given-a : AreStampsGiven rate 1 0 None (bytes_from 0 a) held.a.items
    given-a = subst (AreStampsGiven rate 1 0 None (bytes_from 0 a)) (sym (a-bytes held holds))
        (given_line rate way.A a)

    given-b : AreStampsGiven rate 1 0 None (bytes_from 0 b) held.b.items
    given-b = subst (AreStampsGiven rate 1 0 None (bytes_from 0 b)) (sym (b-bytes held holds))
        (given_line rate way.B b)

    timing-is : taken_from rate 1 0 first ≡ timing_for (both_ways rate) held
    timing-is =
        let P : ℕ → Timing = λ n.
        record { rate = rate; spacing = (both_ways rate).spacing; origin = n } in
        ap P (sym (origin-is rate (bytes_from 0 a) (bytes_from 0 b) held.a.items held.b.items given-a
        given-b))

    taken-a : SameTicks first a (line_of_places (timing_for (both_ways rate) held) held.a.items)
    taken-a = subst (λ t. SameTicks first a (line_of_places t held.a.items)) timing-is
        (taken-alike rate first a held.a.items (first-before-a (bytes_from 0 a) (bytes_from 0 b))
        given-a)

    taken-b : SameTicks first b (line_of_places (timing_for (both_ways rate) held) held.b.items)
    taken-b = subst (λ t. SameTicks first b (line_of_places t held.b.items)) timing-is
        (taken-alike rate first b held.b.items (first-before-b (bytes_from 0 a) (bytes_from 0 b))
        given-b)

  -- ---- that it is done

  ways-a : AreStampsGiven rate 1 0 None (bytes_from 0 a) (way_bytes Both way.A items)
  ways-a = subst (AreStampsGiven rate 1 0 None (bytes_from 0 a))
      (sym (way-records rate way.A records ∙ ap (bytes_of_records rate) are.a_are))
      (given_line rate way.A a)

  ways-b : AreStampsGiven rate 1 0 None (bytes_from 0 b) (way_bytes Both way.B items)
  ways-b = subst (AreStampsGiven rate 1 0 None (bytes_from 0 b))
      (sym (way-records rate way.B records ∙ ap (bytes_of_records rate) are.b_are))
      (given_line rate way.B b)

  items-timing : taken_from rate 1 0 first ≡ timing_of_items (both_ways rate) items
  items-timing =
      let P : ℕ → Timing = λ n.
      record { rate = rate; spacing = (both_ways rate).spacing; origin = n } in
      ap P (sym (origin-is rate (bytes_from 0 a) (bytes_from 0 b) (way_bytes Both way.A items)
      (way_bytes Both way.B items) ways-a ways-b))

  pub takeable-again : length file ≤ max_bytes → length a ≤ max_ticks → length b ≤ max_ticks
      → IsTakeable format (both_ways rate) (Some file)
  takeable-again few few_a few_b = record {
    file = file;
    items = items;
    told = refl;
    few = few;
    right = is;
    no_error = no_errors (bytes_of_records rate records);
    a = subst (λ t. IsPlacedWhole t (way_bytes Both way.A items)) items-timing
        (placed-alike rate first a (way_bytes Both way.A items)
        (first-before-a (bytes_from 0 a) (bytes_from 0 b)) ways-a few_a);
    b = subst (λ t. IsPlacedWhole t (way_bytes Both way.B items)) items-timing
        (placed-alike rate first b (way_bytes Both way.B items)
        (first-before-b (bytes_from 0 a) (bytes_from 0 b)) ways-b few_b);
  }

  -- If no more bytes were left to place, all bytes of the way are in `front`.
  front-all : (cs front rest : List CaptureByte) (t : Timing) (stop : LineStop) → cs ≡ front ++ rest
      → PlacedStopsAt t front rest stop → stop ≡ stops.AllPlaced → cs ≡ front
  front-all cs front rest t stop parts at all =
      let none : rest ≡ [] = subst (PlacedStopsAt t front rest) all at in
      parts ∙ ap (λ l. front ++ l) none ∙ append-nil front

  module _ (before now : CaptureHeld) where
    all-again : (held : Kept) (end : CaptureEnd) (read : ReadEnd) (outcome : Outcome)
        → outcome ≡ Ended statuses.Done → Collects format (both_ways rate) (is_whole_capture read) file held end
        → WritesAll (both_ways rate) held read end before now outcome → TakesAgain a b before now
    all-again held end read outcome done collects all =
        let full = all-done read end all.a_end all.b_end (sym all.outcome_is ∙ done) in
        let holds = kept-items held end
        (subst (λ r. Collects format (both_ways rate) (is_whole_capture r) file held end) full.whole collects)
        full.no_refusal in
        let places = all.lines.places in
        let t : Timing = timing_for (both_ways rate) held in
        let front_a = front-all held.a.items places.front_a places.rest_a t all.a_end.stop
        places.a_is_front.is places.a_stop full.a_all in
        let front_b = front-all held.b.items places.front_b places.rest_b t all.b_end.stop
        places.b_is_front.is places.b_stop full.b_all in record {
          taken_a = all.lines.a;
          taken_b = all.lines.b;
          out = all.lines.text;
          a_same = subst (SameTicks first a) (sym (places.a_is ∙ ap (line_of_places t) (sym front_a)))
              (taken-a held holds);
          b_same = subst (SameTicks first b) (sym (places.b_is ∙ ap (line_of_places t) (sym front_b)))
              (taken-b held holds);
        }

    file-again : (read : ReadEnd) (outcome : Outcome) → outcome ≡ Ended statuses.Done
        → TakesRead format (both_ways rate) read file before now outcome → TakesAgain a b before now
    file-again read outcome done (no_memory none) = let h = none.outcome_is in cc
    file-again read outcome done (was_kept takes) =
        part takes.kept takes.end takes.collects takes.writes
      where
        part : (held : Kept) (end : CaptureEnd) → Collects format (both_ways rate) (is_whole_capture read) file held end
            → WritesTaken (both_ways rate) held read end before now outcome → TakesAgain a b before now
        part held end collects (written all) = all-again held end read outcome done collects all
        part held end collects (failed fault some) = cc

    -- A run that is done has read the whole file.
    read-whole : (read : ReadEnd) (bytes : List ℕ) (outcome : Outcome)
        → outcome ≡ Ended statuses.Done
        → TakesRead format (both_ways rate) read bytes before now outcome → read ≡ Whole
    read-whole read bytes outcome done (no_memory none) = let h = none.outcome_is in cc
    read-whole read bytes outcome done (was_kept takes) = part takes.kept takes.end takes.writes
      where
        part : (held : Kept) (end : CaptureEnd)
            → WritesTaken (both_ways rate) held read end before now outcome → read ≡ Whole
        part held end (written all) =
            (all-done read end all.a_end all.b_end (sym all.outcome_is ∙ done)).whole
        part held end (failed fault some) = cc

    pub run-again : (in_before in_now : Told) (outcome : Outcome) → in_before.left ≡ Some file
        → TakesCapture format (both_ways rate) in_before in_now before now outcome
        → outcome ≡ Ended statuses.Done → TakesAgain a b before now
    run-again in_before in_now outcome told (no_room none) done = let h = none.outcome_is in cc
    run-again in_before in_now outcome told (was_read input) done =
        let whole = read-whole input.read input.file outcome done input.takes in
        let met = same_file input.file input.read whole input.reads.reads in
        file-again input.read outcome done
        (subst (λ l. TakesRead format (both_ways rate) input.read l before now outcome) (sym met)
        input.takes)
      where
        same_file : (bytes : List ℕ) (read : ReadEnd) → read ≡ Whole
            → ReadsInput in_before.left in_now.left bytes read → file ≡ bytes
        same_file bytes Whole whole reads =
            all_of_told file bytes in_now.left (sym told ∙ reads.0) reads.1
        same_file bytes Failed whole reads = cc
        same_file bytes TooLong whole reads = cc
