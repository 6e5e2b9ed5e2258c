-- A gate lets all through that keeps the turns, as the gate knows them.
use Rattle.std.proofs.Common.{◌≡◌, ◌∙◌, ℕ, zero, suc, ◌+◌, ◌≤◌, ◌<◌, Bool, true, false, List, []}
use Rattle.std.proofs.Common.{◌∷◌, ◌++◌}
use Rattle.std.proofs.Common.{length, refl, sym, ap, subst, arith, ⊎_elim, append_assoc}
use Rattle.std.proofs.Common.{length-append}
use Rattle.std.proofs.lemmas.Bool.{cases_lt, cond-true, cond-false, le-leb, lt-leb}
use Rattle.std.proofs.lemmas.List.{length-replicate}
use Rattle.yasir_ticks.specs.Ticks.{silent}
use Rattle.yasir_ticks.specs.BurstsOf.{IsContiguous, one, more}
use Rattle.yasir_ticks.specs.declared.tick.Tick.{Tick, TheVariants.Silent, TheVariants.Byte}
use Rattle.two_wire.specs.declared.gate.Side.{Side}
use Rattle.two_wire.specs.declared.gate.Side.TheVariants.{Asks, Answers}
use Rattle.two_wire.specs.declared.gate.Spoken.{Spoken}
use Rattle.two_wire.specs.declared.gate.Spoken.TheVariants.{Nobody, Asker, Answerer}
use Rattle.two_wire.specs.declared.gate.Waits.{Waits}
use Rattle.two_wire.specs.Gate.{GateState, lets, let_through, known_after, gate_after, gated}
use Rattle.two_wire.specs.Turns.{after, may_ask, may_ask_on, may_answer, may_speak, opposite}
use Rattle.two_wire.specs.Turns.{MaySay, InTurn}
use Rattle.two_wire.proofs.Keeping.{spoken_by, known-byte, known-silent, with_byte}
use Rattle.two_wire.proofs.Quiet.{two-silences, quieter, quieter-asker, quieter-answerer}
use Rattle.two_wire.proofs.Quiet.{after-asker, after-answerer}

-- Holds if a box keeps the turns as it knows them.
abbrev pub KnownTurn : Side → Waits → Spoken → List Tick → List Tick → Type 0
KnownTurn side waits spoken [] others = Unit {0}
KnownTurn side waits spoken (own ∷ owns) [] = Unit {0}
KnownTurn side waits spoken (own ∷ owns) (other ∷ others) =
    MaySay side waits spoken own × KnownTurn side waits (known_after side spoken own other) owns others

abbrev pub IsOpen : GateState → Type 0
IsOpen g = g.quiet < 2 → g.open_now ≡ true

module _ (side : Side) (waits : Waits) where
  lets-all : (g : GateState) → IsOpen g → may_speak side waits g.spoken ≡ true
      → lets side waits g ≡ true
  lets-all g opens may =
      ⊎_elim
      (λ few. cond-false _ _ _ (lt-leb 2 g.quiet few) ∙ opens few)
      (λ enough. cond-true _ _ _ (le-leb 2 g.quiet enough) ∙ may)
      (cases_lt g.quiet 2)

  says-byte : (g : GateState) (b : ℕ) (other : Tick) (ticks others : List Tick)
      → gated side waits (with_byte side g b other true) ticks others ≡ ticks
      → (w : Bool) → w ≡ true
      → let_through (Byte b) w ∷ gated side waits (with_byte side g b other w) ticks others
      ≡ Byte b ∷ ticks
  says-byte g b other ticks others rest true is = ap (λ l. Byte b ∷ l) rest
  says-byte g b other ticks others rest false is = absurd (cc)

  pub says-all : (g : GateState) (ticks others : List Tick) → IsOpen g
      → length ticks ≡ length others → KnownTurn side waits g.spoken ticks others
      → gated side waits g ticks others ≡ ticks
  says-all g [] others opens same turns = refl
  says-all g (t ∷ ticks) [] opens same turns = absurd (omega arith)
  says-all g (Silent ∷ ticks) (other ∷ others) opens same turns =
      ap (λ l. Silent ∷ l)
      (says-all (gate_after side waits g Silent other) ticks others
      (λ few. opens (omega arith)) (omega arith) turns.1)
  says-all g (Byte b ∷ ticks) (other ∷ others) opens same turns =
      let less : length ticks ≡ length others = omega arith in
      says-byte g b other ticks others
      (says-all (with_byte side g b other true) ticks others (λ few. refl) less turns.1)
      (lets side waits g) (lets-all g opens turns.0)

-- ---- talks, one after the other

module _ (side : Side) (waits : Waits) where
  pub all-silent : (k : ℕ) (s : Spoken) → KnownTurn side waits s (silent k) (silent k)
  all-silent zero s = tt
  all-silent (suc k) s = (tt, all-silent k (known_after side s Silent Silent))

  pub both-silent : (k : ℕ) (s : Spoken) (x y : List Tick) → KnownTurn side waits (quieter k s) x y
      → KnownTurn side waits s (silent k ++ x) (silent k ++ y)
  both-silent zero s x y turns = turns
  both-silent (suc k) s x y turns = (
    tt,
    subst (λ t. KnownTurn side waits t (silent k ++ x) (silent k ++ y)) (sym (known-silent side s))
        (both-silent k (after s Silent Silent) x y turns),
  )

  silence-behind : (gap : ℕ) (rest y : List Tick)
      → silent (length (silent gap ++ rest)) ++ y ≡ silent gap ++ (silent (length rest) ++ y)
  silence-behind gap rest y =
      let long = length-append (silent gap) rest in
      let quiet = length-replicate gap Silent in
      let sum : gap + length rest ≡ length (silent gap ++ rest) = omega arith in
      sym (two-silences gap (length rest) (length (silent gap ++ rest)) y sum)

  quieter-own : (k : ℕ) → quieter k (spoken_by side 0) ≡ spoken_by side k
  quieter-own k = own-quieter side k
    where
      own-quieter : (z : Side) (k : ℕ) → quieter k (spoken_by z 0) ≡ spoken_by z k
      own-quieter Asks k = after-asker k
      own-quieter Answers k = after-answerer k

  -- one of this side talks
  pub own-talks : ((q : ℕ) → q < 4 → may_speak side waits (spoken_by side q) ≡ true)
      → (body : List Tick) → IsContiguous 4 body → (s : Spoken) (x y : List Tick)
      → may_speak side waits s ≡ true → KnownTurn side waits (spoken_by side 0) x y
      → KnownTurn side waits s (body ++ x) (silent (length body) ++ y)
  own-talks on body (one b) s x y may turns =
      (may, subst (λ t. KnownTurn side waits t x y) (sym (known-byte side s b)) turns)
  own-talks on body (more b gap rest few contiguous) s x y may turns =
      let last = quieter-own gap in
      let next : KnownTurn side waits (quieter gap (spoken_by side 0)) (rest ++ x)
      (silent (length rest) ++ y) =
      own-talks on rest contiguous (quieter gap (spoken_by side 0)) x y
      (subst (λ t. may_speak side waits t ≡ true) (sym last) (on gap few)) turns in
      let all = both-silent gap (spoken_by side 0) (rest ++ x) (silent (length rest) ++ y) next in (
        may,
        subst (λ t. KnownTurn side waits t ((silent gap ++ rest) ++ x)
            (silent (length (silent gap ++ rest)) ++ y)) (sym (known-byte side s b))
            (subst (λ l. KnownTurn side waits (spoken_by side 0) l
            (silent (length (silent gap ++ rest)) ++ y)) (sym (append_assoc (silent gap) rest x))
            (subst (λ l. KnownTurn side waits (spoken_by side 0) (silent gap ++ (rest ++ x)) l)
            (sym (silence-behind gap rest y)) all)),
      )

  -- the others talk, when the box knows who spoke last
  abbrev pub IsKnown : Spoken → Type 0
  IsKnown s = (b : ℕ) → known_after side s Silent (Byte b) ≡ spoken_by (opposite side) 0

  quieter-other : (k : ℕ) → quieter k (spoken_by (opposite side) 0) ≡ spoken_by (opposite side) k
  quieter-other k = one-quieter side k
    where
      one-quieter : (z : Side) (k : ℕ)
          → quieter k (spoken_by (opposite z) 0) ≡ spoken_by (opposite z) k
      one-quieter Asks k = after-answerer k
      one-quieter Answers k = after-asker k

  other-known : (k : ℕ) → IsKnown (spoken_by (opposite side) k)
  other-known k b = one-known side k b
    where
      one-known : (z : Side) (k b : ℕ)
          → known_after z (spoken_by (opposite z) k) Silent (Byte b) ≡ spoken_by (opposite z) 0
      one-known Asks k b = refl
      one-known Answers k b = refl

  pub others-talk : (body : List Tick) → IsContiguous 4 body → (s : Spoken) (x y : List Tick)
      → IsKnown s → KnownTurn side waits (spoken_by (opposite side) 0) x y
      → KnownTurn side waits s (silent (length body) ++ x) (body ++ y)
  others-talk body (one b) s x y known turns =
      (tt, subst (λ t. KnownTurn side waits t x y) (sym (known b)) turns)
  others-talk body (more b gap rest few contiguous) s x y known turns =
      let t : Spoken = spoken_by (opposite side) 0 in
      let then : IsKnown (quieter gap t) =
      subst (λ u. IsKnown u) (sym (quieter-other gap)) (other-known gap) in
      let next : KnownTurn side waits (quieter gap t) (silent (length rest) ++ x) (rest ++ y) =
      others-talk rest contiguous (quieter gap t) x y then turns in
      let all = both-silent gap t (silent (length rest) ++ x) (rest ++ y) next in (
        tt,
        subst (λ u. KnownTurn side waits u (silent (length (silent gap ++ rest)) ++ x)
            ((silent gap ++ rest) ++ y)) (sym (known b))
            (subst (λ l. KnownTurn side waits t l ((silent gap ++ rest) ++ y))
            (sym (silence-behind gap rest x))
            (subst (λ l. KnownTurn side waits t (silent gap ++ (silent (length rest) ++ x)) l)
            (sym (append_assoc (silent gap) rest y)) all)),
      )

pub asks-on : (waits : Waits) (q : ℕ) → q < 4 → may_speak Asks waits (Asker q) ≡ true
asks-on waits q few = grind arith

pub answers-on : (waits : Waits) → 4 ≤ waits.pause → (q : ℕ) → q < 4
    → may_speak Answers waits (Answerer q) ≡ true
answers-on waits wide q few = grind arith

-- ---- a gate works again after anything that has gone wrong

-- a box that answers always knows the turns
answers-known : (waits : Waits) (s : Spoken) (own others : List Tick) → InTurn Answers waits s own others
    → KnownTurn Answers waits s own others
answers-known waits s [] others turns = tt
answers-known waits s (x ∷ own) [] turns = tt
answers-known waits s (x ∷ own) (o ∷ others) turns =
    (turns.0, answers-known waits (after s o x) own others turns.1)

pub answers-again : (waits : Waits) (g : GateState) (c : ℕ) (ticks others : List Tick) → 2 ≤ g.quiet
    → length ticks ≡ length others → InTurn Answers waits (Asker 0) ticks others
    → gated Answers waits g (Silent ∷ ticks) (Byte c ∷ others) ≡ Silent ∷ ticks
answers-again waits g c ticks others rested same turns =
    let h : GateState = gate_after Answers waits g Silent (Byte c) in
    ap (λ l. Silent ∷ l)
    (says-all Answers waits h ticks others (λ few. absurd (omega arith)) same
    (answers-known waits (Asker 0) ticks others turns))

-- a box that asks does once somebody has spoken
abbrev HasSpoken : Spoken → Type 0
HasSpoken (Nobody q) = ⊥
HasSpoken (Asker q) = Unit {0}
HasSpoken (Answerer q) = Unit {0}

asks-after : (s : Spoken) (x o : Tick) → HasSpoken s → after s x o ≡ known_after Asks s x o
asks-after (Nobody q) x o spoken = absurd spoken
asks-after (Asker q) x o spoken = refl
asks-after (Answerer q) x o spoken = refl

still-spoken : (s : Spoken) (x o : Tick) → HasSpoken s → HasSpoken (after s x o)
still-spoken s (Byte b) o spoken = tt
still-spoken s Silent (Byte c) spoken = tt
still-spoken (Nobody q) Silent Silent spoken = spoken
still-spoken (Asker q) Silent Silent spoken = tt
still-spoken (Answerer q) Silent Silent spoken = tt

asks-known : (waits : Waits) (s : Spoken) (own others : List Tick) → HasSpoken s
    → InTurn Asks waits s own others → KnownTurn Asks waits s own others
asks-known waits s [] others spoken turns = tt
asks-known waits s (x ∷ own) [] spoken turns = tt
asks-known waits s (x ∷ own) (o ∷ others) spoken turns = (
  turns.0,
  subst (λ t. KnownTurn Asks waits t own others) (asks-after s x o spoken)
      (asks-known waits (after s x o) own others (still-spoken s x o spoken) turns.1),
)

-- Holds if the asker may ask after an answer, or because none has come.
abbrev IsFree : Waits → Spoken → Type 0
IsFree waits (Nobody q) = ⊥
IsFree waits (Asker q) = waits.window ≤ q
IsFree waits (Answerer q) = waits.pause ≤ q

free-asks : (waits : Waits) (s : Spoken) → IsFree waits s → may_speak Asks waits s ≡ true
free-asks waits (Nobody q) free = absurd free
free-asks waits (Asker q) free = grind arith
free-asks waits (Answerer q) free = grind arith

free-says : (waits : Waits) (s : Spoken) (x : Tick) → IsFree waits s → MaySay Asks waits s x
free-says waits s Silent free = tt
free-says waits s (Byte b) free = free-asks waits s free

free-spoken : (waits : Waits) (s : Spoken) → IsFree waits s → HasSpoken s
free-spoken waits (Nobody q) free = free
free-spoken waits (Asker q) free = tt
free-spoken waits (Answerer q) free = tt

free-on : (waits : Waits) (s : Spoken) → IsFree waits s → IsFree waits (after s Silent Silent)
free-on waits (Nobody q) free = free
free-on waits (Asker q) free = omega arith
free-on waits (Answerer q) free = omega arith

-- whichever it is
free-known : (waits : Waits) (q : ℕ) (s : Spoken) (own others : List Tick) → waits.window ≤ q
    → IsFree waits s → InTurn Asks waits (Asker q) own others → KnownTurn Asks waits s own others
free-known waits q s [] others enough free turns = tt
free-known waits q s (x ∷ own) [] enough free turns = tt
free-known waits q s (Silent ∷ own) (Silent ∷ others) enough free turns = (
  tt,
  subst (λ t. KnownTurn Asks waits t own others)
      (asks-after s Silent Silent (free-spoken waits s free))
      (free-known waits (suc q) (after s Silent Silent) own others (omega arith)
      (free-on waits s free) turns.1),
)
free-known waits q s (Silent ∷ own) (Byte c ∷ others) enough free turns = (
  tt,
  subst (λ t. KnownTurn Asks waits t own others)
      (asks-after s Silent (Byte c) (free-spoken waits s free))
      (asks-known waits (Answerer 0) own others tt turns.1),
)
free-known waits q s (Byte b ∷ own) (o ∷ others) enough free turns = (
  free-says waits s (Byte b) free,
  subst (λ t. KnownTurn Asks waits t own others)
      (asks-after s (Byte b) o (free-spoken waits s free))
      (asks-known waits (Asker 0) own others tt turns.1),
)

free-after : (waits : Waits) (k : ℕ) (s : Spoken) → HasSpoken s → waits.pause ≤ waits.window
    → waits.window ≤ k → IsFree waits (quieter k s)
free-after waits k (Nobody q) spoken covered enough = absurd spoken
free-after waits k (Asker q) spoken covered enough =
    let now : IsFree waits (Asker (q + k)) = omega arith in
    subst (λ t. IsFree waits t) (sym (quieter-asker k q)) now
free-after waits k (Answerer q) spoken covered enough =
    let now : IsFree waits (Answerer (q + k)) = omega arith in
    subst (λ t. IsFree waits t) (sym (quieter-answerer k q)) now

spoken-is : (s : Spoken) → ((quiet : ℕ) → s ≡ Nobody quiet → ⊥) → HasSpoken s
spoken-is (Nobody q) never = never q refl
spoken-is (Asker q) never = tt
spoken-is (Answerer q) never = tt

silence-long : (k : ℕ) (x y : List Tick) → length x ≡ length y
    → length (silent k ++ x) ≡ length (silent k ++ y)
silence-long k x y same =
    let a = length-append (silent k) x in
    let b = length-append (silent k) y in
    omega arith

pub asks-again : (waits : Waits) (g : GateState) (k : ℕ) (ticks others : List Tick) → 2 ≤ g.quiet
    → ((quiet : ℕ) → g.spoken ≡ Nobody quiet → ⊥) → waits.pause ≤ waits.window → waits.window ≤ k
    → length ticks ≡ length others → InTurn Asks waits (Asker k) ticks others
    → gated Asks waits g (silent k ++ ticks) (silent k ++ others) ≡ silent k ++ ticks
asks-again waits g k ticks others rested never covered enough same turns =
    let spoken = spoken-is g.spoken never in
    says-all Asks waits g (silent k ++ ticks) (silent k ++ others) (λ few. absurd (omega arith))
    (silence-long k ticks others same)
    (both-silent Asks waits k g.spoken ticks others
    (free-known waits k (quieter k g.spoken) ticks others enough
    (free-after waits k g.spoken spoken covered enough) turns))
