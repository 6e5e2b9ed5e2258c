-- A device that has heard silence for long enough reads what comes as one that has heard nothing.
use Rattle.device_model.specs.{Frames.FrameRead, Hunt.Timed, Hunt.timed, Hunt.timed_bytes, Hunt.hunt}
use Rattle.device_model.specs.Hunt.{hunt_anew, found, found_by, frame_hunted, begins, passed_over}
use Rattle.device_model.specs.RtuReads.{frame_in, frames_read, is_frame_body}
use Rattle.device_model.proofs.ReadLaws.{frames_read-append, frames_read-ended, frames_read-open}
use Rattle.frame_ending.proofs.Spread.{AreSpread, EndBy, bursts_from-spread, bursts_from-end}
use Rattle.frame_ending.specs.Laid.{later}
use Rattle.line_rules.specs.Rules.{Rules, head_of}
use Rattle.line_rules.specs.declared.head.Head.{Head}
use Rattle.line_rules.specs.declared.head.Head.TheVariants.{Short, Good, Bad}
use Rattle.receiver_laws.proofs.Parting.{silent-add}
use Rattle.receiver_laws.proofs.Settled.{reads_with}
use Rattle.receiver_laws.specs.Headline.{bytes_read}
use Rattle.std.proofs.Common.{◌≡◌, ◌∙◌, ℕ, zero, suc, ◌+◌, ◌-◌, ◌≤◌, ◌<◌, ◌&&◌, nat_le, Bool, true}
use Rattle.std.proofs.Common.{false, cond, List, [], ◌∷◌, ◌++◌, length, map, take, refl, sym, ap, subst}
use Rattle.std.proofs.Common.{arith, append_assoc, length-append, ⊎_elim, ◌⊎◌, inl, inr}
use Rattle.std.proofs.lemmas.{Grind.flat_map-append, List.map-append, List.length-replicate}
use Rattle.std.proofs.lemmas.{Bool.cases_lt, List.append-nil}
use Rattle.std.specs.List.{flat_map}
use Rattle.yasir_ticks.proofs.BurstLaws.{bursts_from-starts}
use Rattle.yasir_ticks.proofs.BurstsOfLaws.{bursts_from-are, bursts_from-only, bursts_from-silence}
use Rattle.yasir_ticks.specs.{Bursts.Burst, Bursts.bursts_from, Bursts.end_of, Ticks.silent}
use Rattle.yasir_ticks.specs.BurstsOf.{StartsFrom, AreBursts}
use Rattle.yasir_ticks.specs.declared.tick.Tick.{Tick, TheVariants.Silent, TheVariants.Byte}
use Rattle.two_wire.specs.Gate.{gated, at_rest}
use Rattle.two_wire.specs.Starts.{WaitsFirst, ReadsAnew}
use Rattle.two_wire.specs.declared.gate.Side.TheVariants.{Asks}
use Rattle.two_wire.specs.declared.gate.Waits.{Waits}
use Rattle.two_wire.proofs.Quiet.{two-silences}
use Rattle.two_wire.proofs.Starting.{waits-first}

-- ---- the bursts of two lines with silence between them

starts-less : (k n : ℕ) (ds : List Burst) → k ≤ n → StartsFrom n ds → StartsFrom k ds
starts-less k n [] le starts = tt
starts-less k n (d ∷ ds) le starts = omega arith

dark-first : (cut n k m : ℕ) (l : List Tick) (ds : List Burst) → n + k ≡ m → AreBursts cut m l ds
    → AreBursts cut n (silent k ++ l) ds
dark-first cut n k m l [] here are =
    let long = length-append (silent k) l in
    let quiet = length-replicate k Silent in
    let sum : k + length l ≡ length (silent k ++ l) = omega arith in
    ap (λ x. silent k ++ x) are ∙ (silent-add k (length l) ∙ ap (λ i. silent i) sum)
dark-first cut n k m l (d ∷ ds) here are =
    let start : d.start ≡ m + are.0 = are.3 in (
      k + are.0,
      are.1,
      ap (λ x. silent k ++ x) are.2
          ∙ (sym (append_assoc (silent k) (silent are.0) (d.body ++ are.1))
          ∙ ap (λ x. x ++ (d.body ++ are.1)) (silent-add k are.0)),
      omega arith,
      are.4,
      are.5,
      are.6,
    )

module _ (cut k : ℕ) (enough : cut ≤ k) (y : List Tick) (es : List Burst) where
  both-start : (n m : ℕ) (ds : List Burst) → n ≤ m → StartsFrom n ds → StartsFrom m es
      → StartsFrom n (ds ++ es)
  both-start n m [] le one two = starts-less n m es le two
  both-start n m (d ∷ ds) le one two = one

  joined : (n m : ℕ) (x : List Tick) (ds : List Burst) → n + (length x + k) ≡ m
      → AreBursts cut n x ds → AreBursts cut m y es → StartsFrom m es
      → AreBursts cut n (x ++ (silent k ++ y)) (ds ++ es)
  joined n m x [] sum are are_too starts =
      subst (λ l. AreBursts cut n (l ++ (silent k ++ y)) es) (sym are)
      (dark-first cut n (length x) (n + length x) (silent k ++ y) es refl
      (dark-first cut (n + length x) k m y es (omega arith) are_too))
  joined n m x (d ∷ ds) sum are are_too starts =
      let gap : ℕ = are.0 in
      let rest : List Tick = are.1 in
      let z : List Tick = silent k ++ y in
      let start : d.start ≡ n + gap = are.3 in
      let all = ap length are.2 in
      let a = length-append (silent gap) (d.body ++ rest) in
      let b = length-append d.body rest in
      let quiet = length-replicate gap Silent in
      let shape : x ++ z ≡ silent gap ++ (d.body ++ (rest ++ z)) =
      ap (λ l. l ++ z) are.2
      ∙ (append_assoc (silent gap) (d.body ++ rest) z
      ∙ ap (λ l. silent gap ++ l) (append_assoc d.body rest z)) in (
        gap,
        rest ++ z,
        shape,
        start,
        are.4,
        both-start (end_of d + cut) m ds (omega arith) are.5 starts,
        joined (end_of d) m rest ds (omega arith) are.6 are_too starts,
      )

pub bursts-joined : (cut n m k : ℕ) (x y : List Tick) → cut ≤ k → n + (length x + k) ≡ m
    → bursts_from cut n (x ++ (silent k ++ y)) ≡ bursts_from cut n x ++ bursts_from cut m y
bursts-joined cut n m k x y enough sum =
    bursts_from-only cut n (x ++ (silent k ++ y)) (bursts_from cut n x ++ bursts_from cut m y)
    (joined cut k enough y (bursts_from cut m y) n m x (bursts_from cut n x) sum
    (bursts_from-are cut n x) (bursts_from-are cut m y) (bursts_from-starts cut m y))

-- ---- the same ticks, later

later-start : (m n : ℕ) (ds : List Burst) → StartsFrom n ds → StartsFrom (m + n) (map (later m) ds)
later-start m n [] starts = tt
later-start m n (d ∷ ds) starts = omega arith

later-are : (cut m n : ℕ) (l : List Tick) (ds : List Burst) → AreBursts cut n l ds
    → AreBursts cut (m + n) l (map (later m) ds)
later-are cut m n l [] are = are
later-are cut m n l (d ∷ ds) are =
    let start : d.start ≡ n + are.0 = are.3 in
    let e : Burst = later m d in
    let end : m + (end_of d + cut) ≡ end_of e + cut = omega arith in
    let until : m + end_of d ≡ end_of e = omega arith in (
      are.0,
      are.1,
      are.2,
      omega arith,
      are.4,
      subst (λ i. StartsFrom i (map (later m) ds)) end (later-start m (end_of d + cut) ds are.5),
      subst (λ i. AreBursts cut i are.1 (map (later m) ds)) until
          (later-are cut m (end_of d) are.1 ds are.6),
    )

pub bursts-later : (cut m : ℕ) (y : List Tick)
    → bursts_from cut m y ≡ map (later m) (bursts_from cut 0 y)
bursts-later cut m y =
    let same : m + 0 ≡ m = omega arith in
    bursts_from-only cut m y (map (later m) (bursts_from cut 0 y))
    (subst (λ i. AreBursts cut i y (map (later m) (bursts_from cut 0 y))) same
    (later-are cut m 0 y (bursts_from cut 0 y) (bursts_from-are cut 0 y)))

pub late-bursts : (cut k : ℕ) (y : List Tick)
    → bursts_from cut 0 (silent k ++ y) ≡ map (later k) (bursts_from cut 0 y)
late-bursts cut k y =
    let sum : 0 + k ≡ k = omega arith in
    bursts_from-silence cut 0 k y
    ∙ (ap (λ i. bursts_from cut i y) sum ∙ bursts-later cut k y)

-- What is read of a line and more of it is what is read of both, and of the first one at most so many
-- more.
pub record Anew (reads : List Tick → List FrameRead) (most : ℕ) (x behind y : List Tick) : Type 0
  where
    pub more : List (List ℕ)
    pub few : length more ≤ most
    pub anew : bytes_read (reads (x ++ behind)) ≡ bytes_read (reads x) ++ (more ++ bytes_read (reads y))

-- ---- a hunt reads the same bytes, whenever they come

module _ (first second : ℕ) (rules : Rules) where
  whole-bytes : (c : Bool) (m n : ℕ) (f : List ℕ)
      → bytes_read (cond c (record { start = m; frame = f } ∷ []) [])
      ≡ bytes_read (cond c (record { start = n; frame = f } ∷ []) [])
  whole-bytes true m n f = refl
  whole-bytes false m n f = refl

  head-bytes : (h : Head) (m n : ℕ) (x : List ℕ)
      → bytes_read (found_by rules h m x) ≡ bytes_read (found_by rules h n x)
  head-bytes Good m n x =
      let size : ℕ = rules.size (take rules.header_len x) in
      whole-bytes (nat_le size (length x) && rules.is_frame (take size x)) m n (take size x)
  head-bytes Short m n x = refl
  head-bytes Bad m n x = refl

  begun-bytes : (c : Bool) (m n : ℕ) (x : List ℕ)
      → bytes_read (cond c (found_by rules (head_of rules x) m x) [])
      ≡ bytes_read (cond c (found_by rules (head_of rules x) n x) [])
  begun-bytes true m n x = head-bytes (head_of rules x) m n x
  begun-bytes false m n x = refl

  same-bytes : (m n : ℕ) (l : List Tick) → timed_bytes (timed m l) ≡ timed_bytes (timed n l)
  same-bytes m n [] = refl
  same-bytes m n (Silent ∷ l) = same-bytes (suc m) (suc n) l
  same-bytes m n (Byte b ∷ l) = ap (λ x. b ∷ x) (same-bytes (suc m) (suc n) l)

  hunts-alike : (k m n : ℕ) (l : List Tick)
      → bytes_read (hunt first second rules k (timed m l))
      ≡ bytes_read (hunt first second rules k (timed n l))
  unfolding hunt
  hunts-alike k m n [] = refl
  hunts-alike k m n (Silent ∷ l) = hunts-alike k (suc m) (suc n) l
  hunts-alike (suc k) m n (Byte b ∷ l) = hunts-alike k (suc m) (suc n) l
  hunts-alike zero m n (Byte b ∷ l) =
      let x : List ℕ = b ∷ timed_bytes (timed (suc m) l) in
      let y : List ℕ = b ∷ timed_bytes (timed (suc n) l) in
      let same : x ≡ y = ap (λ z. b ∷ z) (same-bytes (suc m) (suc n) l) in
      map-append (λ f. f.frame) (found first second rules m x)
      (hunt first second rules (passed_over first second rules x) (timed (suc m) l))
      ∙ (ap (λ z. bytes_read (found first second rules m x) ++ z)
      (hunts-alike (passed_over first second rules x) (suc m) (suc n) l)
      ∙ (ap (λ z. z ++ bytes_read (hunt first second rules (passed_over first second rules x)
      (timed (suc n) l))) (begun-bytes (begins first second x) m n x)
      ∙ (ap (λ z. bytes_read (found first second rules n z)
      ++ bytes_read (hunt first second rules (passed_over first second rules z) (timed (suc n) l)))
      same
      ∙ sym (map-append (λ f. f.frame) (found first second rules n y)
      (hunt first second rules (passed_over first second rules y) (timed (suc n) l))))))

  abbrev of_burst : Burst → List FrameRead
  of_burst d = hunt first second rules 0 (timed d.start d.body)

  bursts-alike : (m : ℕ) (ds : List Burst)
      → bytes_read (flat_map of_burst (map (later m) ds)) ≡ bytes_read (flat_map of_burst ds)
  bursts-alike m [] = refl
  bursts-alike m (d ∷ ds) =
      map-append (λ f. f.frame) (of_burst (later m d)) (flat_map of_burst (map (later m) ds))
      ∙ (ap (λ z. z ++ bytes_read (flat_map of_burst (map (later m) ds)))
      (hunts-alike 0 (m + d.start) d.start d.body)
      ∙ (ap (λ z. bytes_read (of_burst d) ++ z) (bursts-alike m ds)
      ∙ sym (map-append (λ f. f.frame) (of_burst d) (flat_map of_burst ds))))

  -- A device that hunts anew after silence does so.
  pub hunts-anew : (cut k : ℕ) (x y : List Tick) → cut ≤ k
      → bytes_read (hunt_anew first second rules cut 0 (x ++ (silent k ++ y)))
      ≡ bytes_read (hunt_anew first second rules cut 0 x)
      ++ bytes_read (hunt_anew first second rules cut 0 y)
  hunts-anew cut k x y enough =
      let m : ℕ = length x + k in
      let sum : 0 + (length x + k) ≡ m = omega arith in
      let ds : List Burst = bursts_from cut 0 x in
      let es : List Burst = bursts_from cut 0 y in
      ap (λ l. bytes_read (flat_map of_burst l))
      (bursts-joined cut 0 m k x y enough sum ∙ ap (λ l. ds ++ l) (bursts-later cut m y))
      ∙ (ap (λ l. bytes_read l) (flat_map-append of_burst ds (map (later m) es))
      ∙ (map-append (λ f. f.frame) (flat_map of_burst ds) (flat_map of_burst (map (later m) es))
      ∙ ap (λ z. bytes_read (flat_map of_burst ds) ++ z) (bursts-alike m es)))

  pub hunts-apart : (cut k : ℕ) (x y : List Tick) → cut ≤ k
      → Anew (λ l. hunt_anew first second rules cut 0 l) 0 x (silent k ++ y) y
  hunts-apart cut k x y enough =
      record { more = []; few = omega arith; anew = hunts-anew cut k x y enough }

  pub hunts-late : (cut k : ℕ) (y : List Tick)
      → bytes_read (hunt_anew first second rules cut 0 (silent k ++ y))
      ≡ bytes_read (hunt_anew first second rules cut 0 y)
  hunts-late cut k y =
      ap (λ l. bytes_read (flat_map of_burst l)) (late-bursts cut k y)
      ∙ bursts-alike k (bursts_from cut 0 y)

-- ---- a device for which silence ends a frame reads the same frames, whenever they come

one-frame : (c : Bool) (m : ℕ) (d : Burst)
    → bytes_read (cond c (frame_in (later m d) ∷ []) []) ≡ bytes_read (cond c (frame_in d ∷ []) [])
one-frame true m d = refl
one-frame false m d = refl

module _ (cut pause : ℕ) where
  one-read : (m n : ℕ) (d : Burst) → bytes_read (frames_read cut pause (m + n) (later m d ∷ []))
      ≡ bytes_read (frames_read cut pause n (d ∷ []))
  one-read m n d =
      let sum : m + (end_of d + cut) ≡ end_of (later m d) + cut = omega arith in
      ⊎_elim
      (λ here.
      ap bytes_read (frames_read-open cut pause (m + n) (later m d) (omega arith))
      ∙ sym (ap bytes_read (frames_read-open cut pause n d here)))
      (λ ended.
      ap bytes_read (frames_read-ended cut pause (m + n) (later m d) (omega arith))
      ∙ (one-frame (is_frame_body pause d.body) m d
      ∙ sym (ap bytes_read (frames_read-ended cut pause n d ended))))
      (cases_lt n (end_of d + cut))

  all-read : (m n : ℕ) (ds : List Burst) → bytes_read (frames_read cut pause (m + n) (map (later m) ds))
      ≡ bytes_read (frames_read cut pause n ds)
  all-read m n [] = refl
  all-read m n (d ∷ ds) =
      let xs : List Burst = map (later m) ds in
      ap bytes_read (frames_read-append cut pause (m + n) (later m d ∷ []) xs)
      ∙ (map-append (λ f. f.frame) (frames_read cut pause (m + n) (later m d ∷ []))
      (frames_read cut pause (m + n) xs)
      ∙ (ap (λ z. z ++ bytes_read (frames_read cut pause (m + n) xs)) (one-read m n d)
      ∙ (ap (λ z. bytes_read (frames_read cut pause n (d ∷ [])) ++ z) (all-read m n ds)
      ∙ (sym (map-append (λ f. f.frame) (frames_read cut pause n (d ∷ [])) (frames_read cut pause n ds))
      ∙ sym (ap bytes_read (frames_read-append cut pause n (d ∷ []) ds))))))

  -- Silence behind a line ends its last burst, so at most one frame more is read.
  record Extra (m n : ℕ) (ds : List Burst) : Type 0 where
    more : List (List ℕ)
    few : length more ≤ 1
    is : bytes_read (frames_read cut pause m ds) ≡ bytes_read (frames_read cut pause n ds) ++ more

  few-read : (c : Bool) (d : Burst) → length (bytes_read (cond c (frame_in d ∷ []) [])) ≤ 1
  few-read true d = omega arith
  few-read false d = omega arith

  last-read : (m n : ℕ) (d : Burst) → n ≤ m → end_of d + cut ≤ m → Extra m n (d ∷ [])
  last-read m n d le now =
      let at_m = frames_read-ended cut pause m d now in
      ⊎_elim
      (λ here.
      let extra : Extra m n (d ∷ []) = record {
        more = bytes_read (cond (is_frame_body pause d.body) (frame_in d ∷ []) []);
        few = few-read (is_frame_body pause d.body) d;
        is = ap bytes_read at_m
            ∙ ap (λ z. bytes_read z
            ++ bytes_read (cond (is_frame_body pause d.body) (frame_in d ∷ []) []))
            (sym (frames_read-open cut pause n d here));
      } in
      extra)
      (λ ended.
      let extra : Extra m n (d ∷ []) = record {
        more = [];
        few = omega arith;
        is = ap bytes_read (at_m ∙ sym (frames_read-ended cut pause n d ended))
            ∙ sym (append-nil (bytes_read (frames_read cut pause n (d ∷ []))));
      } in
      extra)
      (cases_lt n (end_of d + cut))

  extra-read : (m n k : ℕ) (ds : List Burst) → n + cut ≤ m → AreSpread cut k ds → EndBy n ds
      → Extra m n ds
  extra-read m n k [] le spread ends = record { more = []; few = omega arith; is = refl }
  extra-read m n k (d ∷ []) le spread ends =
      let end : end_of d ≤ n = ends.0 in last-read m n d (omega arith) (omega arith)
  extra-read m n k (d ∷ (e ∷ es)) le spread ends =
      let next : end_of d + cut ≤ e.start = spread.2.0 in
      let end : end_of e ≤ n = ends.1.0 in
      let rest : List Burst = e ∷ es in
      let one : List FrameRead = frames_read cut pause n (d ∷ []) in
      let then = extra-read m n (end_of d + cut) (e ∷ es) le spread.2 ends.1 in
      let same : frames_read cut pause m (d ∷ []) ≡ one =
      frames_read-ended cut pause m d (omega arith)
      ∙ sym (frames_read-ended cut pause n d (omega arith)) in
      record {
        more = then.more;
        few = then.few;
        is = ap bytes_read (frames_read-append cut pause m (d ∷ []) rest)
            ∙ (map-append (λ f. f.frame) (frames_read cut pause m (d ∷ []))
            (frames_read cut pause m rest)
            ∙ (ap (λ z. bytes_read z ++ bytes_read (frames_read cut pause m rest)) same
            ∙ (ap (λ z. bytes_read one ++ z) then.is
            ∙ (sym (append_assoc (bytes_read one) (bytes_read (frames_read cut pause n rest)) then.more)
            ∙ ap (λ z. z ++ then.more)
            (sym (map-append (λ f. f.frame) one (frames_read cut pause n rest))
            ∙ ap bytes_read (sym (frames_read-append cut pause n (d ∷ []) rest)))))));
      }

  pub reads-anew : (k : ℕ) (x y : List Tick) → cut ≤ k
      → Anew (reads_with cut pause) 1 x (silent k ++ y) y
  reads-anew k x y enough =
      let m : ℕ = length x + k in
      let n : ℕ = length y in
      let line : List Tick = x ++ (silent k ++ y) in
      let ds : List Burst = bursts_from cut 0 x in
      let es : List Burst = bursts_from cut 0 y in
      let sum : 0 + (length x + k) ≡ m = omega arith in
      let a = length-append x (silent k ++ y) in
      let b = length-append (silent k) y in
      let c = length-replicate k Silent in
      let long : length line ≡ m + n = omega arith in
      let extra = extra-read (m + n) (length x) 0 ds (omega arith) (bursts_from-spread cut 0 x)
      (bursts_from-end cut 0 (length x) x (omega arith)) in
      record {
        more = extra.more;
        few = extra.few;
        anew = ap (λ i. bytes_read (frames_read cut pause i (bursts_from cut 0 line))) long
            ∙ (ap (λ l. bytes_read (frames_read cut pause (m + n) l))
            (bursts-joined cut 0 m k x y enough sum ∙ ap (λ l. ds ++ l) (bursts-later cut m y))
            ∙ (ap bytes_read (frames_read-append cut pause (m + n) ds (map (later m) es))
            ∙ (map-append (λ f. f.frame) (frames_read cut pause (m + n) ds)
            (frames_read cut pause (m + n) (map (later m) es))
            ∙ (ap (λ z. bytes_read (frames_read cut pause (m + n) ds) ++ z) (all-read m n es)
            ∙ (ap (λ z. z ++ bytes_read (reads_with cut pause y)) extra.is
            ∙ append_assoc (bytes_read (reads_with cut pause x)) extra.more
            (bytes_read (reads_with cut pause y)))))));
      }

  -- Silence before a line doesn't matter.
  pub reads-late : (k : ℕ) (y : List Tick)
      → bytes_read (reads_with cut pause (silent k ++ y)) ≡ bytes_read (reads_with cut pause y)
  reads-late k y =
      let a = length-append (silent k) y in
      let b = length-replicate k Silent in
      let long : length (silent k ++ y) ≡ k + length y = omega arith in
      ap (λ i. bytes_read (frames_read cut pause i (bursts_from cut 0 (silent k ++ y)))) long
      ∙ (ap (λ l. bytes_read (frames_read cut pause (k + length y) l)) (late-bursts cut k y)
      ∙ all-read k (length y) (bursts_from cut 0 y))

-- ---- behind a gate that has begun anew

-- what a gate that asks says: silence for as long as it waits, and then more, or only silence
record SaysLater (cut : ℕ) (own : List Tick) : Type 0 where
  n : ℕ
  rest : List Tick
  own_is : own ≡ silent n ++ rest
  long : (cut ≤ n) ⊎ (length own ≤ n)

says-later : (cut : ℕ) (waits : Waits) (ticks heard own : List Tick) → cut ≤ waits.window
    → own ≡ gated Asks waits at_rest ticks heard → SaysLater cut own
says-later cut waits ticks heard own fits is =
    let made : List Tick = gated Asks waits at_rest ticks heard in
    let same = ap length is in
    ⊎_elim
    (λ none.
    let later_is : SaysLater cut own = record {
      n = length made;
      rest = [];
      own_is = is ∙ (none ∙ sym (append-nil (silent (length made))));
      long = inr (omega arith);
    } in
    later_is)
    (λ (first : WaitsFirst waits.window made heard).
    let later_is : SaysLater cut own = record {
      n = first.before + waits.window;
      rest = first.rest;
      own_is = is ∙ first.own_is;
      long = inl (omega arith);
    } in
    later_is)
    (waits-first waits ticks heard)

more-silence : (k n : ℕ) (x l : List Tick)
    → x ++ (silent k ++ (silent n ++ l)) ≡ x ++ (silent (k + n) ++ l)
more-silence k n x l = ap (λ z. x ++ z) (two-silences k n (k + n) l refl)

module _ (cut down most : ℕ) (reads : List Tick → List FrameRead)
    (late : (k : ℕ) (y : List Tick) → bytes_read (reads (silent k ++ y)) ≡ bytes_read (reads y))
    (anew : (k : ℕ) (x y : List Tick) → cut ≤ k → Anew reads most x (silent k ++ y) y) where
  pub rests : (waits : Waits) (ticks heard own before : List Tick) → cut ≤ waits.window
      → own ≡ gated Asks waits at_rest ticks heard → cut ≤ down + length own
      → ReadsAnew reads most down before own
  rests waits ticks heard own before fits is enough =
      let says = says-later cut waits ticks heard own fits is in
      let long : cut ≤ down + says.n =
      ⊎_elim (λ (some : cut ≤ says.n). omega arith)
      (λ (all : length own ≤ says.n). omega arith) says.long in
      let read = anew (down + says.n) before says.rest long in
      let own_read : bytes_read (reads own) ≡ bytes_read (reads says.rest) =
      ap (λ l. bytes_read (reads l)) says.own_is ∙ late says.n says.rest in
      record {
        more = read.more;
        few = read.few;
        anew = ap (λ l. bytes_read (reads (before ++ (silent down ++ l)))) says.own_is
            ∙ (ap (λ l. bytes_read (reads l)) (more-silence down says.n before says.rest)
            ∙ (read.anew
            ∙ ap (λ z. bytes_read (reads before) ++ (read.more ++ z)) (sym own_read)));
      }

pub rtu-rests : (cut pause down : ℕ) (waits : Waits) (ticks heard own before : List Tick)
    → cut ≤ waits.window → own ≡ gated Asks waits at_rest ticks heard → cut ≤ down + length own
    → ReadsAnew (reads_with cut pause) 1 down before own
rtu-rests cut pause down =
    rests cut down 1 (reads_with cut pause) (λ k y. reads-late cut pause k y)
    (λ k x y enough. reads-anew cut pause k x y enough)

pub hunter-rests : (first second : ℕ) (rules : Rules) (cut down : ℕ) (waits : Waits)
    (ticks heard own before : List Tick) → cut ≤ waits.window
    → own ≡ gated Asks waits at_rest ticks heard → cut ≤ down + length own
    → ReadsAnew (λ l. hunt_anew first second rules cut 0 l) 0 down before own
hunter-rests first second rules cut down =
    rests cut down 0 (λ l. hunt_anew first second rules cut 0 l)
    (λ k y. hunts-late first second rules cut k y)
    (λ k x y enough. hunts-apart first second rules cut k x y enough)
