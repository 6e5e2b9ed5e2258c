-- A box behind its gate, which hears the others `lag` ticks late, keeps the turns as long as they do,
-- whoever spoke before it began. So it never talks while another does, or while one is deaf.
use Rattle.std.proofs.Common.{◌≡◌, ◌∙◌, ℕ, zero, suc, ◌+◌, ◌≤◌, ◌<◌, Bool, true, false, ◌||◌, ◌&&◌}
use Rattle.std.proofs.Common.{List, [], ◌∷◌, ◌++◌, length, refl, sym, ap, subst, arith, nat_lt, nat_le}
use Rattle.std.proofs.Common.{⊎_elim, ◌⊎◌, inl, inr, drop, take, get_or, append_assoc, length-append}
use Rattle.std.proofs.lemmas.Bool.{cases_lt, cond-true, cond-false, le-leb, lt-leb}
use Rattle.yasir_ticks.specs.Ticks.{silent}
use Rattle.yasir_ticks.specs.declared.tick.Tick.{Tick, TheVariants.Silent, TheVariants.Byte}
use Rattle.two_wire.specs.declared.gate.Waits.{Waits}
use Rattle.two_wire.specs.declared.gate.Side.{Side}
use Rattle.two_wire.specs.declared.gate.Side.TheVariants.{Asks, Answers}
use Rattle.two_wire.specs.declared.gate.Spoken.{Spoken}
use Rattle.two_wire.specs.declared.gate.Spoken.TheVariants.{Nobody, Asker, Answerer}
use Rattle.two_wire.specs.Gate.{GateState, at_rest, lets, let_through, known_after, gate_after, gated}
use Rattle.two_wire.specs.Turns.{after, may_ask, may_answer, may_ask_on, may_speak, opposite}
use Rattle.two_wire.specs.Turns.{after_own, MaySay, OthersInTurn, may_be_deaf, MayBeDeaf, DeafInTurn}
use Rattle.two_wire.specs.Turns.{CoversTurns, quiet_of}
use Rattle.two_wire.specs.Wires.{IsApart, AreApart, on_wires}
use Rattle.two_wire.proofs.Quiet.{two-silences, quieter, quieter-nobody, quieter-asker}
use Rattle.two_wire.proofs.Quiet.{quieter-answerer}

-- ---- what is heard

-- Holds if what is heard is what the others say, unless the box says something then too.
abbrev pub AreHeard : List Tick → List Tick → List Tick → Type 0
AreHeard [] others hs = Unit {0}
AreHeard (x ∷ own) [] hs = ⊥
AreHeard (x ∷ own) (o ∷ others) [] = ⊥
AreHeard (x ∷ own) (o ∷ others) (h ∷ hs) = (IsApart x o → h ≡ o) × AreHeard own others hs

-- ---- the two sides

abbrev pub spoken_by : Side → ℕ → Spoken
spoken_by Asks quiet = Asker quiet
spoken_by Answers quiet = Answerer quiet

own-byte : (side : Side) (s : Spoken) (b : ℕ) → after_own side s (Byte b) Silent ≡ spoken_by side 0
own-byte Asks s b = refl
own-byte Answers s b = refl

own-silent : (side : Side) (s : Spoken) → after_own side s Silent Silent ≡ after s Silent Silent
own-silent Asks s = refl
own-silent Answers s = refl

pub known-byte : (side : Side) (s : Spoken) (b : ℕ)
    → known_after side s (Byte b) Silent ≡ spoken_by side 0
known-byte Asks (Nobody q) b = refl
known-byte Asks (Asker q) b = refl
known-byte Asks (Answerer q) b = refl
known-byte Answers s b = refl

known-quiet : (side : Side) (q : ℕ)
    → known_after side (spoken_by side q) Silent Silent ≡ spoken_by side (suc q)
known-quiet Asks q = refl
known-quiet Answers q = refl

pub known-silent : (side : Side) (s : Spoken)
    → known_after side s Silent Silent ≡ after s Silent Silent
known-silent Asks (Nobody q) = refl
known-silent Asks (Asker q) = refl
known-silent Asks (Answerer q) = refl
known-silent Answers s = refl

quiet-more : (s : Spoken) → quiet_of (after s Silent Silent) ≡ suc (quiet_of s)
quiet-more (Nobody q) = refl
quiet-more (Asker q) = refl
quiet-more (Answerer q) = refl

or-right : (a b : Bool) → b ≡ true → (a || b) ≡ true
or-right a b is = grind arith

-- What the others said in the last ticks, the oldest first, and may say now: the state of the turns
-- goes on in it while the box is silent.
abbrev heard_on : Side → Spoken → List Tick → Spoken
heard_on side spoken [] = spoken
heard_on side spoken (t ∷ ts) = heard_on side (after_own side spoken Silent t) ts

abbrev SaidOn : Side → Waits → Spoken → List Tick → Type 0
SaidOn side kept spoken [] = Unit {0}
SaidOn side kept spoken (t ∷ ts) =
    MaySay (opposite side) kept spoken t × SaidOn side kept (after_own side spoken Silent t) ts

said-more : (side : Side) (kept : Waits) (spoken : Spoken) (ts : List Tick) (o : Tick)
    → SaidOn side kept spoken ts → MaySay (opposite side) kept (heard_on side spoken ts) o
    → SaidOn side kept spoken (ts ++ (o ∷ []))
said-more side kept spoken [] o all may = (may, tt)
said-more side kept spoken (t ∷ ts) o all may =
    (all.0, said-more side kept (after_own side spoken Silent t) ts o all.1 may)

heard-more : (side : Side) (spoken : Spoken) (ts : List Tick) (o : Tick)
    → heard_on side spoken (ts ++ (o ∷ [])) ≡ after_own side (heard_on side spoken ts) Silent o
heard-more side spoken [] o = refl
heard-more side spoken (t ∷ ts) o = heard-more side (after_own side spoken Silent t) ts o

heard-quiet : (side : Side) (k : ℕ) (spoken : Spoken)
    → heard_on side spoken (silent k) ≡ quieter k spoken
heard-quiet side zero spoken = refl
heard-quiet side (suc k) spoken =
    heard-quiet side k (after_own side spoken Silent Silent)
    ∙ ap (λ s. quieter k s) (own-silent side spoken)

-- Nobody of the others may speak in the next k ticks, if all are silent.
abbrev Mute : Side → Waits → ℕ → Spoken → Type 0
Mute Asks kept k (Nobody q) = Unit {0}
Mute Asks kept k (Asker q) = (q + k ≤ 4) ⊎ (kept.window ≤ q)
Mute Asks kept k (Answerer q) = kept.pause ≤ q
Mute Answers kept k (Nobody q) = ⊥
Mute Answers kept k (Asker q) = (4 ≤ q) × (q + k ≤ kept.window)
Mute Answers kept k (Answerer q) = q + k ≤ kept.pause

mute-now : (side : Side) (kept : Waits) (k : ℕ) (spoken : Spoken) → 0 < k → Mute side kept k spoken
    → may_speak (opposite side) kept spoken ≡ true → ⊥
mute-now Asks kept k (Nobody q) some mute may = cc
mute-now Asks kept k (Asker q) some mute may =
    ⊎_elim (λ (few : q + k ≤ 4). grind arith) (λ (over : kept.window ≤ q). grind arith) mute
mute-now Asks kept k (Answerer q) some mute may = grind arith
mute-now Answers kept k (Nobody q) some mute may = mute
mute-now Answers kept k (Asker q) some mute may =
    let over = mute.0 in
    let soon = mute.1 in
    grind arith
mute-now Answers kept k (Answerer q) some mute may = grind arith

mute-next : (side : Side) (kept : Waits) (k : ℕ) (spoken : Spoken) → Mute side kept (suc k) spoken
    → Mute side kept k (after_own side spoken Silent Silent)
mute-next Asks kept k (Nobody q) mute = tt
mute-next Asks kept k (Asker q) mute =
    ⊎_elim (λ (few : q + suc k ≤ 4). inl (omega arith)) (λ (over : kept.window ≤ q). inr (omega arith))
    mute
mute-next Asks kept k (Answerer q) mute = omega arith
mute-next Answers kept k (Nobody q) mute = mute
mute-next Answers kept k (Asker q) mute =
    let over = mute.0 in
    let soon = mute.1 in
    (omega arith, omega arith)
mute-next Answers kept k (Answerer q) mute = omega arith

-- so all were silent
mute-silent : (side : Side) (kept : Waits) (spoken : Spoken) (ts : List Tick)
    → Mute side kept (length ts) spoken → SaidOn side kept spoken ts → ts ≡ silent (length ts)
mute-silent side kept spoken [] mute all = refl
mute-silent side kept spoken (Silent ∷ ts) mute all =
    ap (λ l. Silent ∷ l)
    (mute-silent side kept (after_own side spoken Silent Silent) ts
    (mute-next side kept (length ts) spoken mute) all.1)
mute-silent side kept spoken (Byte b ∷ ts) mute all =
    absurd (mute-now side kept (suc (length ts)) spoken (omega arith) mute all.0)

-- ---- what a gate knows

-- Holds if a gate that takes the first for who spoke last is right, but for m ticks of the others
-- that it hasn't counted yet, while it has counted those of the box: before them it was the second.
abbrev Ahead : Side → ℕ → Spoken → Spoken → Type 0
Ahead Asks m (Nobody x) s = x ≤ quiet_of s + m
Ahead Asks m (Asker x) s = (q : ℕ) × (s ≡ Asker q) × (q + m ≡ x)
Ahead Asks m (Answerer x) s = s ≡ Answerer x
Ahead Answers m (Nobody x) s = Unit {0}
Ahead Answers m (Asker x) s = s ≡ Asker x
Ahead Answers m (Answerer x) s = (q : ℕ) × (s ≡ Answerer q) × (q + m ≡ x)

-- of ticks before the box spoke, or before the gate began, it knows that nothing matters in them
abbrev Fits : Side → ℕ → Spoken → Type 0
Fits side zero g = Unit {0}
Fits Asks (suc k) (Nobody x) = Unit {0}
Fits Asks (suc k) (Asker x) = Unit {0}
Fits Asks (suc k) (Answerer x) = ⊥
Fits Answers (suc k) (Nobody x) = Unit {0}
Fits Answers (suc k) (Asker x) = ⊥
Fits Answers (suc k) (Answerer x) = Unit {0}

fits-nobody : (side : Side) (k : ℕ) → Fits side k (Nobody 0)
fits-nobody side zero = tt
fits-nobody Asks (suc k) = tt
fits-nobody Answers (suc k) = tt

fits-own : (side : Side) (k : ℕ) → Fits side k (spoken_by side 0)
fits-own side zero = tt
fits-own Asks (suc k) = tt
fits-own Answers (suc k) = tt

fits-none : (side : Side) (g : Spoken) → Fits side 0 g
fits-none side g = tt

fits-more : (side : Side) (k : ℕ) (g : Spoken) → Fits side (suc k) g
    → Fits side k (known_after side g Silent Silent)
fits-more side zero g fits = tt
fits-more Asks (suc k) (Nobody x) fits = tt
fits-more Asks (suc k) (Asker x) fits = tt
fits-more Asks (suc k) (Answerer x) fits = absurd fits
fits-more Answers (suc k) (Nobody x) fits = tt
fits-more Answers (suc k) (Asker x) fits = absurd fits
fits-more Answers (suc k) (Answerer x) fits = tt

ahead-nobody : (side : Side) (s : Spoken) → Ahead side 0 (Nobody 0) s
ahead-nobody Asks s = omega arith
ahead-nobody Answers s = tt

ahead-own : (side : Side) → Ahead side 0 (spoken_by side 0) (spoken_by side 0)
ahead-own Asks = (0, refl, refl)
ahead-own Answers = (0, refl, refl)

ahead-silent : (side : Side) (m : ℕ) (g s : Spoken) → Ahead side m g s
    → Ahead side m (known_after side g Silent Silent) (after_own side s Silent Silent)
ahead-silent Asks m (Nobody x) s ahead = let quiet = quiet-more s in omega arith
ahead-silent Asks m (Asker x) s ahead =
    let sum = ahead.2 in (suc ahead.0, ap (λ t. after t Silent Silent) ahead.1, omega arith)
ahead-silent Asks m (Answerer x) s ahead = ap (λ t. after t Silent Silent) ahead
ahead-silent Answers m (Nobody x) s ahead = tt
ahead-silent Answers m (Asker x) s ahead = ap (λ t. after t Silent Silent) ahead
ahead-silent Answers m (Answerer x) s ahead =
    let sum = ahead.2 in (suc ahead.0, ap (λ t. after t Silent Silent) ahead.1, omega arith)

ahead-after : (side : Side) (m : ℕ) (g s : Spoken) (p : Tick) → Ahead side m g s
    → Ahead side m (known_after side g Silent p) (after_own side s Silent p)
ahead-after side m g s Silent ahead = ahead-silent side m g s ahead
ahead-after Asks m (Nobody x) s (Byte b) ahead = omega arith
ahead-after Asks m (Asker x) s (Byte b) ahead = refl
ahead-after Asks m (Answerer x) s (Byte b) ahead = refl
ahead-after Answers m g s (Byte b) ahead = refl

ahead-more : (side : Side) (k m : ℕ) (g s : Spoken) → Fits side (suc k) g → Ahead side m g s
    → Ahead side (suc m) (known_after side g Silent Silent) s
ahead-more Asks k m (Nobody x) s fits ahead = omega arith
ahead-more Asks k m (Asker x) s fits ahead =
    let sum = ahead.2 in (ahead.0, ahead.1, omega arith)
ahead-more Asks k m (Answerer x) s fits ahead = absurd fits
ahead-more Answers k m (Nobody x) s fits ahead = tt
ahead-more Answers k m (Asker x) s fits ahead = absurd fits
ahead-more Answers k m (Answerer x) s fits ahead =
    let sum = ahead.2 in (ahead.0, ahead.1, omega arith)

-- Holds if the box spoke last while a burst that is let through goes on.
abbrev pub GoesOn : Side → GateState → Type 0
GoesOn side g = g.quiet < 2 → g.open_now ≡ true → g.spoken ≡ spoken_by side g.quiet

-- what a gate knows after a byte of its receiver, let through or not
abbrev pub with_byte : Side → GateState → ℕ → Tick → Bool → GateState
with_byte side g b p w = record {
  spoken = known_after side g.spoken (let_through (Byte b) w) p;
  quiet = 0;
  open_now = w;
}

module _ (waits : Waits) (lag : ℕ) where
  -- the box may go on
  on-may : (side : Side) (kept : Waits) → CoversTurns side waits lag kept → (q : ℕ) → q < 2
      → may_speak side waits (spoken_by side q) ≡ true
  on-may Asks kept covers q few =
      let soon : nat_lt q 4 ≡ true = grind arith in
      or-right (may_ask waits (Asker q)) (may_ask_on (Asker q)) soon
  on-may Answers kept covers q few = let wide : 4 ≤ waits.pause = covers.2 in grind arith

  -- if the box may speak, none of the others may, until it has
  asker-mutes : (kept : Waits) → CoversTurns Asks waits lag kept → (m q x : ℕ) → q + m ≡ x → m ≤ lag
      → may_speak Asks waits (Asker x) ≡ true → (q + suc m ≤ 4) ⊎ (kept.window ≤ q)
  asker-mutes kept covers m q x sum le may =
      let longer : kept.window + lag ≤ waits.window = covers.0 in
      ⊎_elim (λ (few : x < 4). inl (omega arith))
      (λ (over : 4 ≤ x). let enough : waits.window ≤ x = grind arith in inr (omega arith))
      (cases_lt x 4)

  mutes : (side : Side) (kept : Waits) → CoversTurns side waits lag kept → (m : ℕ) (g s : Spoken)
      → m ≤ lag → Ahead side m g s → may_speak side waits g ≡ true → Mute side kept (suc m) s
  mutes Asks kept covers m (Nobody x) (Nobody q) le ahead may = tt
  mutes Asks kept covers m (Nobody x) (Asker q) le ahead may =
      let longer : kept.window + lag ≤ waits.window = covers.0 in
      let enough : waits.window ≤ x = grind arith in inr (omega arith)
  mutes Asks kept covers m (Nobody x) (Answerer q) le ahead may =
      let longer : kept.window + lag ≤ waits.window = covers.0 in
      let within : kept.pause ≤ kept.window = covers.2 in
      let enough : waits.window ≤ x = grind arith in omega arith
  mutes Asks kept covers m (Asker x) s le ahead may =
      subst (λ t. Mute Asks kept (suc m) t) (sym ahead.1)
      (asker-mutes kept covers m ahead.0 x ahead.2 le may)
  mutes Asks kept covers m (Answerer x) s le ahead may =
      let longer : kept.pause ≤ waits.pause = covers.1 in
      let enough : waits.pause ≤ x = grind arith in
      let now : Mute Asks kept (suc m) (Answerer x) = omega arith in
      subst (λ t. Mute Asks kept (suc m) t) (sym ahead) now
  mutes Answers kept covers m (Nobody x) s le ahead may = absurd (cc)
  mutes Answers kept covers m (Asker x) s le ahead may =
      let shorter : waits.window + lag ≤ kept.window = covers.0 in
      let over : 4 ≤ x = grind arith in
      let soon : x < waits.window = grind arith in
      let now : Mute Answers kept (suc m) (Asker x) = (over, omega arith) in
      subst (λ t. Mute Answers kept (suc m) t) (sym ahead) now
  mutes Answers kept covers m (Answerer x) s le ahead may =
      let pauses : waits.pause ≤ kept.pause = covers.1 in
      let soon : x < waits.pause = grind arith in
      let sum = ahead.2 in
      let now : Mute Answers kept (suc m) (Answerer ahead.0) = omega arith in
      subst (λ t. Mute Answers kept (suc m) t) (sym ahead.1) now

  -- and none may be deaf
  heeds : (side : Side) (k m : ℕ) (g s : Spoken) → k + m ≡ lag → Fits side k g → Ahead side m g s
      → may_speak side waits g ≡ true → may_be_deaf side waits lag (quieter m s) ≡ true → ⊥
  heeds Asks k m (Nobody x) (Nobody q) sum fits ahead may deaf =
      let enough : waits.window ≤ x = grind arith in
      let now : may_be_deaf Asks waits lag (Nobody (q + m)) ≡ true =
      subst (λ t. may_be_deaf Asks waits lag t ≡ true) (quieter-nobody m q) deaf in
      grind arith
  heeds Asks k m (Nobody x) (Asker q) sum fits ahead may deaf =
      let enough : waits.window ≤ x = grind arith in
      let now : may_be_deaf Asks waits lag (Asker (q + m)) ≡ true =
      subst (λ t. may_be_deaf Asks waits lag t ≡ true) (quieter-asker m q) deaf in
      grind arith
  heeds Asks k m (Nobody x) (Answerer q) sum fits ahead may deaf =
      let enough : waits.window ≤ x = grind arith in
      let now : may_be_deaf Asks waits lag (Answerer (q + m)) ≡ true =
      subst (λ t. may_be_deaf Asks waits lag t ≡ true) (quieter-answerer m q) deaf in
      grind arith
  heeds Asks k m (Asker x) s sum fits ahead may deaf =
      let now : may_be_deaf Asks waits lag (Asker (ahead.0 + m)) ≡ true =
      subst (λ t. may_be_deaf Asks waits lag t ≡ true)
      (ap (λ t. quieter m t) ahead.1 ∙ quieter-asker m ahead.0) deaf in
      let here : may_be_deaf Asks waits lag (Asker x) ≡ true =
      subst (λ i. may_be_deaf Asks waits lag (Asker i) ≡ true) ahead.2 now in
      grind arith
  heeds Asks zero m (Answerer x) s sum fits ahead may deaf =
      let now : may_be_deaf Asks waits lag (Answerer (x + m)) ≡ true =
      subst (λ t. may_be_deaf Asks waits lag t ≡ true)
      (ap (λ t. quieter m t) ahead ∙ quieter-answerer m x) deaf in
      grind arith
  heeds Asks (suc k) m (Answerer x) s sum fits ahead may deaf = fits
  heeds Answers k m (Nobody x) s sum fits ahead may deaf = absurd (cc)
  heeds Answers zero m (Asker x) s sum fits ahead may deaf =
      let now : may_be_deaf Answers waits lag (Asker (x + m)) ≡ true =
      subst (λ t. may_be_deaf Answers waits lag t ≡ true)
      (ap (λ t. quieter m t) ahead ∙ quieter-asker m x) deaf in
      grind arith
  heeds Answers (suc k) m (Asker x) s sum fits ahead may deaf = fits
  heeds Answers k m (Answerer x) s sum fits ahead may deaf =
      let now : may_be_deaf Answers waits lag (Answerer (ahead.0 + m)) ≡ true =
      subst (λ t. may_be_deaf Answers waits lag t ≡ true)
      (ap (λ t. quieter m t) ahead.1 ∙ quieter-answerer m ahead.0) deaf in
      let here : may_be_deaf Answers waits lag (Answerer x) ≡ true =
      subst (λ i. may_be_deaf Answers waits lag (Answerer i) ≡ true) ahead.2 now in
      grind arith

  -- who may talk may be deaf
  talker-deaf : (side : Side) (kept : Waits) → CoversTurns side waits lag kept → (s : Spoken)
      → may_speak (opposite side) kept s ≡ true → may_be_deaf side waits lag s ≡ true
  talker-deaf Asks kept covers (Nobody q) may = absurd (cc)
  talker-deaf Asks kept covers (Asker q) may =
      let longer : kept.window + lag ≤ waits.window = covers.0 in grind arith
  talker-deaf Asks kept covers (Answerer q) may =
      let longer : kept.window + lag ≤ waits.window = covers.0 in
      let pauses : kept.pause ≤ waits.pause = covers.1 in
      let within : kept.pause ≤ kept.window = covers.2 in
      grind arith
  talker-deaf Answers kept covers (Nobody q) may = refl
  talker-deaf Answers kept covers (Asker q) may =
      let shorter : waits.window + lag ≤ kept.window = covers.0 in grind arith
  talker-deaf Answers kept covers (Answerer q) may =
      let pauses : waits.pause ≤ kept.pause = covers.1 in grind arith

module _ (side : Side) (kept waits : Waits) (lag : ℕ) (covers : CoversTurns side waits lag kept) where
  talks-one : (s : Spoken) (o : Tick) → MaySay (opposite side) kept s o → MayBeDeaf side waits lag s o
  talks-one s Silent may = tt
  talks-one s (Byte b) may = talker-deaf waits lag side kept covers s may

  pub talks-deafly : (s : Spoken) (own others : List Tick) → OthersInTurn side kept s own others
      → DeafInTurn side waits lag s own others others
  talks-deafly s [] others turns = tt
  talks-deafly s (x ∷ own) [] turns = tt
  talks-deafly s (x ∷ own) (o ∷ others) turns =
      (talks-one s o turns.0, talks-deafly (after_own side s x o) own others turns.1)

  says-may : (g : GateState) → GoesOn side g → lets side waits g ≡ true
      → may_speak side waits g.spoken ≡ true
  says-may g goes_on is =
      ⊎_elim
      (λ few.
      let on : g.open_now ≡ true = sym (cond-false _ _ _ (lt-leb 2 g.quiet few)) ∙ is in
      ap (λ s. may_speak side waits s) (goes_on few on) ∙ on-may waits lag side kept covers g.quiet few)
      (λ enough. sym (cond-true _ _ _ (le-leb 2 g.quiet enough)) ∙ is)
      (cases_lt g.quiet 2)

  -- ---- one tick

  -- the next tick of the others that the gate counts, and what it is behind then
  record Step (k m : ℕ) (g s0 : Spoken) (rest : List Tick) (o : Tick) (hs : List Tick) : Type 0 where
    p : Tick
    next_k : ℕ
    next_m : ℕ
    s1 : Spoken
    rest1 : List Tick
    queue_is : silent k ++ (rest ++ (o ∷ hs)) ≡ p ∷ (silent next_k ++ (rest1 ++ hs))
    sum : next_k + next_m ≡ lag
    long : length rest1 ≡ next_m
    fits : Fits side next_k (known_after side g Silent p)
    ahead : Ahead side next_m (known_after side g Silent p) s1
    all : SaidOn side kept s1 rest1
    goes : heard_on side s1 rest1 ≡ after_own side (heard_on side s0 rest) Silent o
    p_quiet : Mute side kept (suc m) s0 → p ≡ Silent
    all_quiet : Mute side kept (suc m) s0 → silent next_k ++ (rest1 ++ hs) ≡ silent lag ++ hs

  shift : (rest : List Tick) (o : Tick) (hs : List Tick)
      → rest ++ (o ∷ hs) ≡ (rest ++ (o ∷ [])) ++ hs
  shift rest o hs = sym (append_assoc rest (o ∷ []) hs)

  long-more : (rest : List Tick) (o : Tick) → length (rest ++ (o ∷ [])) ≡ suc (length rest)
  long-more rest o = let sum = length-append rest (o ∷ []) in omega arith

  last-silent : (rest : List Tick) (o : Tick) (n : ℕ) → rest ++ (o ∷ []) ≡ silent (suc n)
      → (rest ≡ silent n) × (o ≡ Silent)
  last-silent [] o zero is = (refl, ap (λ l. get_or l 0 Silent) is)
  last-silent [] o (suc n) is = absurd (cc)
  last-silent (t ∷ []) o zero is = absurd (cc)
  last-silent (t ∷ (u ∷ ts)) o zero is = absurd (cc)
  last-silent (t ∷ ts) o (suc n) is =
      let less = last-silent ts o n (ap (drop 1) is) in
      let first : t ≡ Silent = ap (λ l. get_or l 0 Silent) is in
      (ap (λ x. x ∷ ts) first ∙ ap (λ l. Silent ∷ l) less.0, less.1)

  all-silent : (m : ℕ) (s0 : Spoken) (rest : List Tick) (o : Tick) → length rest ≡ m
      → SaidOn side kept s0 rest → MaySay (opposite side) kept (heard_on side s0 rest) o
      → Mute side kept (suc m) s0 → rest ++ (o ∷ []) ≡ silent (suc m)
  all-silent m s0 rest o long all may mute =
      let n : length (rest ++ (o ∷ [])) ≡ suc m = long-more rest o ∙ ap suc long in
      mute-silent side kept s0 (rest ++ (o ∷ [])) (subst (λ i. Mute side kept i s0) (sym n) mute)
      (said-more side kept s0 rest o all may)
      ∙ ap (λ i. silent i) n

  step : (k m : ℕ) (g s0 : Spoken) (rest : List Tick) (o : Tick) (hs : List Tick)
      → k + m ≡ lag → length rest ≡ m → Fits side k g → Ahead side m g s0 → SaidOn side kept s0 rest
      → MaySay (opposite side) kept (heard_on side s0 rest) o → Step k m g s0 rest o hs
  step (suc k) m g s0 rest o hs sum long fits ahead all may = record {
    p = Silent;
    next_k = k;
    next_m = suc m;
    s1 = s0;
    rest1 = rest ++ (o ∷ []);
    queue_is = ap (λ l. Silent ∷ (silent k ++ l)) (shift rest o hs);
    sum = omega arith;
    long = long-more rest o ∙ ap suc long;
    fits = fits-more side k g fits;
    ahead = ahead-more side k m g s0 fits ahead;
    all = said-more side kept s0 rest o all may;
    goes = heard-more side s0 rest o;
    p_quiet = λ mute. refl;
    all_quiet = λ mute.
        ap (λ l. silent k ++ (l ++ hs)) (all-silent m s0 rest o long all may mute)
        ∙ two-silences k (suc m) lag hs (omega arith);
  }
  step zero m g s0 [] o hs sum long fits ahead all may =
      let none : m ≡ 0 = sym long in
      let now : Ahead side 0 g s0 = subst (λ i. Ahead side i g s0) none ahead in
      record {
        p = o;
        next_k = 0;
        next_m = 0;
        s1 = after_own side s0 Silent o;
        rest1 = [];
        queue_is = refl;
        sum = omega arith;
        long = refl;
        fits = fits-none side (known_after side g Silent o);
        ahead = ahead-after side 0 g s0 o now;
        all = tt;
        goes = refl;
        p_quiet = λ mute.
            (last-silent [] o m (all-silent m s0 [] o long all may mute)).1;
        all_quiet = λ mute. let no : 0 ≡ lag = omega arith in ap (λ i. silent i ++ hs) no;
      }
  step zero m g s0 (p ∷ ps) o hs sum long fits ahead all may = record {
    p = p;
    next_k = 0;
    next_m = m;
    s1 = after_own side s0 Silent p;
    rest1 = ps ++ (o ∷ []);
    queue_is = ap (λ l. p ∷ l) (shift ps o hs);
    sum = sum;
    long = long-more ps o ∙ long;
    fits = fits-none side (known_after side g Silent p);
    ahead = ahead-after side m g s0 p ahead;
    all = said-more side kept (after_own side s0 Silent p) ps o all.1 may;
    goes = heard-more side (after_own side s0 Silent p) ps o;
    p_quiet = λ mute.
        ap (λ l. get_or l 0 Silent) (all-silent m s0 (p ∷ ps) o long all may mute);
    all_quiet = λ mute.
        ap (λ l. drop 1 l ++ hs) (all-silent m s0 (p ∷ ps) o long all may mute)
        ∙ ap (λ i. silent i ++ hs) (omega arith);
  }

  -- ---- tick by tick

  beside : (b : ℕ) (s : Spoken) (d : Tick) → (may_be_deaf side waits lag s ≡ true → ⊥)
      → MayBeDeaf side waits lag s d → IsApart (Byte b) d
  beside b s Silent never may = tt
  beside b s (Byte c) never may = never may

  -- what is claimed of the ticks that follow, when the gate counts these ticks of the others
  abbrev Claim : GateState → Spoken → List Tick → List Tick → List Tick → List Tick → List Tick → Type 0
  Claim g s ticks q others deaf hs = OthersInTurn side kept s (gated side waits g ticks q) others
      → DeafInTurn side waits lag s (gated side waits g ticks q) others deaf
      → AreHeard (gated side waits g ticks q) others hs
      → AreApart (gated side waits g ticks q) deaf

  -- and of all ways in which the gate may be behind
  abbrev Claims : List Tick → List Tick → List Tick → Type 0
  Claims ticks others deaf = (hs : List Tick) (k m : ℕ) (g : GateState) (s s0 : Spoken)
      (rest q : List Tick)
      → length hs ≡ length others → k + m ≡ lag → length rest ≡ m → GoesOn side g
      → Fits side k g.spoken → Ahead side m g.spoken s0 → SaidOn side kept s0 rest
      → s ≡ heard_on side s0 rest → q ≡ silent k ++ (rest ++ hs) → Claim g s ticks q others deaf hs

  -- a tick in which the box is silent
  one-silent : (k m : ℕ) (g h : GateState) (s s0 : Spoken) (rest : List Tick) (p : Tick)
      (q : List Tick) (o : Tick) (ticks others deaf hs : List Tick) → Claims ticks others deaf
      → length hs ≡ length others
      → (st : Step k m g.spoken s0 rest o hs) → s ≡ heard_on side s0 rest → p ≡ st.p
      → q ≡ silent st.next_k ++ (st.rest1 ++ hs) → h.spoken ≡ known_after side g.spoken Silent p
      → GoesOn side h → Claim h (after_own side s Silent o) ticks q others deaf hs
  one-silent k m g h s s0 rest p q o ticks others deaf hs next all_long st s_is p_is q_is h_is goes_on =
      let spoken : h.spoken ≡ known_after side g.spoken Silent st.p =
      h_is ∙ ap (λ t. known_after side g.spoken Silent t) p_is in
      next hs st.next_k st.next_m h (after_own side s Silent o) st.s1 st.rest1 q all_long st.sum st.long
      goes_on
      (subst (λ t. Fits side st.next_k t) (sym spoken) st.fits)
      (subst (λ t. Ahead side st.next_m t st.s1) (sym spoken) st.ahead) st.all
      (ap (λ t. after_own side t Silent o) s_is ∙ sym st.goes) q_is

  goes-silent : (k m : ℕ) (g : GateState) (s0 : Spoken) (rest : List Tick) (p o : Tick)
      (hs : List Tick) → (st : Step k m g.spoken s0 rest o hs) → p ≡ st.p → m ≤ lag
      → Ahead side m g.spoken s0 → GoesOn side g → GoesOn side (gate_after side waits g Silent p)
  goes-silent k m g s0 rest p o hs st p_is le ahead goes_on few on =
      let last : g.spoken ≡ spoken_by side g.quiet = goes_on (omega arith) on in
      let may : may_speak side waits g.spoken ≡ true =
      ap (λ s. may_speak side waits s) last
      ∙ on-may waits lag side kept covers g.quiet (omega arith) in
      let quiet : p ≡ Silent =
      p_is ∙ st.p_quiet (mutes waits lag side kept covers m g.spoken s0 le ahead may) in
      ap (λ t. known_after side g.spoken Silent t) quiet
      ∙ (ap (λ t. known_after side t Silent Silent) last ∙ known-quiet side g.quiet)

  -- a tick of the receiver with a byte, let through or not
  one-byte : (k m : ℕ) (g : GateState) (s s0 : Spoken) (rest : List Tick) (b : ℕ) (p : Tick)
      (q : List Tick) (o h d : Tick) (ticks others deaf hs : List Tick) → k + m ≡ lag
      → length rest ≡ m → length hs ≡ length others → m ≤ lag
      → Claims ticks others deaf → GoesOn side g → Fits side k g.spoken → Ahead side m g.spoken s0
      → SaidOn side kept s0 rest → s ≡ heard_on side s0 rest
      → p ∷ q ≡ silent k ++ (rest ++ (h ∷ hs))
      → (w : Bool) → lets side waits g ≡ w
      → OthersInTurn side kept s
      (let_through (Byte b) w ∷ gated side waits (with_byte side g b p w) ticks q) (o ∷ others)
      → DeafInTurn side waits lag s
      (let_through (Byte b) w ∷ gated side waits (with_byte side g b p w) ticks q) (o ∷ others) (d ∷ deaf)
      → AreHeard (let_through (Byte b) w ∷ gated side waits (with_byte side g b p w) ticks q) (o ∷ others)
      (h ∷ hs)
      → AreApart (let_through (Byte b) w ∷ gated side waits (with_byte side g b p w) ticks q) (d ∷ deaf)
  one-byte k m g s s0 rest b p q o h d ticks others deaf hs sum long all_long le next goes_on fits ahead
      all s_is q_is true is turns deafs heard =
      let may : MaySay (opposite side) kept (heard_on side s0 rest) o =
      subst (λ x. MaySay (opposite side) kept x o) s_is turns.0 in
      let speaks : may_speak side waits g.spoken ≡ true = says-may g goes_on is in
      let mute : Mute side kept (suc m) s0 = mutes waits lag side kept covers m g.spoken s0 le ahead speaks in
      let quiet = last-silent rest o m (all-silent m s0 rest o long all may mute) in
      let apart : IsApart (Byte b) o = subst (λ t. IsApart (Byte b) t) (sym quiet.1) tt in
      let st = step k m g.spoken s0 rest o hs sum long fits ahead all may in
      let both : p ∷ q ≡ st.p ∷ (silent st.next_k ++ (st.rest1 ++ hs)) =
      q_is ∙ (ap (λ t. silent k ++ (rest ++ (t ∷ hs))) (heard.0 apart) ∙ st.queue_is) in
      let p_is : p ≡ Silent = ap (λ l. get_or l 0 Silent) both ∙ st.p_quiet mute in
      let same : q ≡ silent lag ++ ([] ++ hs) = ap (drop 1) both ∙ st.all_quiet mute in
      let s_now : s ≡ quieter m s0 =
      s_is ∙ (ap (λ l. heard_on side s0 l) quiet.0 ∙ heard-quiet side m s0) in
      let never : may_be_deaf side waits lag s ≡ true → ⊥ = λ is_deaf.
      heeds waits lag side k m g.spoken s0 sum fits ahead speaks
      (subst (λ x. may_be_deaf side waits lag x ≡ true) s_now is_deaf) in
      let g_now : known_after side g.spoken (Byte b) p ≡ spoken_by side 0 =
      ap (λ t. known_after side g.spoken (Byte b) t) p_is ∙ known-byte side g.spoken b in
      let s_then : after_own side s (Byte b) o ≡ spoken_by side 0 =
      ap (λ t. after_own side s (Byte b) t) quiet.1 ∙ own-byte side s b in (
        beside b s d never deafs.0,
        next hs lag 0 (with_byte side g b p true) (spoken_by side 0) (spoken_by side 0) [] q all_long
            (omega arith) refl (λ few on. g_now)
            (subst (λ t. Fits side lag t) (sym g_now) (fits-own side lag))
            (subst (λ t. Ahead side 0 t (spoken_by side 0)) (sym g_now) (ahead-own side)) tt refl same
            (subst (λ x. OthersInTurn side kept x (gated side waits (with_byte side g b p true) ticks q)
            others) s_then turns.1)
            (subst (λ x. DeafInTurn side waits lag x (gated side waits (with_byte side g b p true) ticks q)
            others deaf) s_then deafs.1)
            heard.1,
      )
  one-byte k m g s s0 rest b p q o h d ticks others deaf hs sum long all_long le next goes_on fits ahead
      all s_is q_is false is turns deafs heard =
      let may : MaySay (opposite side) kept (heard_on side s0 rest) o =
      subst (λ x. MaySay (opposite side) kept x o) s_is turns.0 in
      let st = step k m g.spoken s0 rest o hs sum long fits ahead all may in
      let both : p ∷ q ≡ st.p ∷ (silent st.next_k ++ (st.rest1 ++ hs)) =
      q_is ∙ (ap (λ t. silent k ++ (rest ++ (t ∷ hs))) (heard.0 tt) ∙ st.queue_is) in (
        tt,
        one-silent k m g (with_byte side g b p false) s s0 rest p q o ticks others deaf hs next all_long st
            s_is (ap (λ l. get_or l 0 Silent) both) (ap (drop 1) both) refl
            (λ few on. absurd (cc)) turns.1 deafs.1 heard.1,
      )

  keeps : (ticks others deaf : List Tick) → length ticks ≡ length others
      → length deaf ≡ length others → Claims ticks others deaf
  keeps [] others [] same as_long hs k m g s s0 rest q all_long sum long goes_on fits ahead all s_is q_is
      turns deafs heard = tt
  keeps [] others (d ∷ deaf) same as_long hs k m g s s0 rest q all_long sum long goes_on fits ahead all
      s_is q_is turns deafs heard = absurd (omega arith)
  keeps (t ∷ ticks) [] deaf same as_long hs k m g s s0 rest q all_long sum long goes_on fits ahead all
      s_is q_is turns deafs heard = absurd (omega arith)
  keeps (t ∷ ticks) (o ∷ others) [] same as_long hs k m g s s0 rest q all_long sum long goes_on fits
      ahead all s_is q_is turns deafs heard = absurd (omega arith)
  keeps (t ∷ ticks) (o ∷ others) (d ∷ deaf) same as_long [] k m g s s0 rest q all_long sum long goes_on
      fits ahead all s_is q_is turns deafs heard = absurd (omega arith)
  keeps (t ∷ ticks) (o ∷ others) (d ∷ deaf) same as_long (h ∷ hs) k m g s s0 rest [] all_long sum long
      goes_on fits ahead all s_is q_is turns deafs heard =
      let a = length-append (silent k) (rest ++ (h ∷ hs)) in
      let b = length-append rest (h ∷ hs) in
      let c = ap length q_is in
      absurd (omega arith)
  keeps (Silent ∷ ticks) (o ∷ others) (d ∷ deaf) same as_long (h ∷ hs) k m g s s0 rest (p ∷ q) all_long
      sum long goes_on fits ahead all s_is q_is turns deafs heard =
      let less : length ticks ≡ length others = omega arith in
      let deaf_less : length deaf ≡ length others = omega arith in
      let heard_less : length hs ≡ length others = omega arith in
      let le : m ≤ lag = omega arith in
      let may : MaySay (opposite side) kept (heard_on side s0 rest) o =
      subst (λ x. MaySay (opposite side) kept x o) s_is turns.0 in
      let st = step k m g.spoken s0 rest o hs sum long fits ahead all may in
      let both : p ∷ q ≡ st.p ∷ (silent st.next_k ++ (st.rest1 ++ hs)) =
      q_is ∙ (ap (λ t. silent k ++ (rest ++ (t ∷ hs))) (heard.0 tt) ∙ st.queue_is) in
      let p_is : p ≡ st.p = ap (λ l. get_or l 0 Silent) both in (
        tt,
        one-silent k m g (gate_after side waits g Silent p) s s0 rest p q o ticks others deaf hs
            (keeps ticks others deaf less deaf_less) heard_less st s_is p_is (ap (drop 1) both) refl
            (goes-silent k m g s0 rest p o hs st p_is le ahead goes_on) turns.1 deafs.1 heard.1,
      )
  keeps (Byte b ∷ ticks) (o ∷ others) (d ∷ deaf) same as_long (h ∷ hs) k m g s s0 rest (p ∷ q) all_long
      sum long goes_on fits ahead all s_is q_is turns deafs heard =
      let less : length ticks ≡ length others = omega arith in
      let deaf_less : length deaf ≡ length others = omega arith in
      let heard_less : length hs ≡ length others = omega arith in
      let le : m ≤ lag = omega arith in
      one-byte k m g s s0 rest b p q o h d ticks others deaf hs sum long heard_less le
      (keeps ticks others deaf less deaf_less) goes_on fits ahead all s_is q_is (lets side waits g) refl
      turns deafs heard

  gated-front : (g : GateState) (n : ℕ) (ticks q : List Tick) → length ticks ≡ n
      → gated side waits g ticks (take n q) ≡ gated side waits g ticks q
  gated-front g n [] q same = refl
  gated-front g zero (t ∷ ticks) q same = absurd (omega arith)
  gated-front g (suc n) (t ∷ ticks) [] same = refl
  gated-front g (suc n) (t ∷ ticks) (p ∷ q) same =
      ap (λ l. let_through t (lets side waits g) ∷ l)
      (gated-front (gate_after side waits g t p) n ticks q (omega arith))

  -- A gate that hears this late says nothing while one of the others is deaf.
  pub stays-apart : (before : Spoken) (own ticks others deaf hs : List Tick)
      → own ≡ gated side waits at_rest ticks (on_wires lag hs) → length ticks ≡ length others
      → length deaf ≡ length others → length hs ≡ length others → OthersInTurn side kept before own others
      → DeafInTurn side waits lag before own others deaf → AreHeard own others hs → AreApart own deaf
  stays-apart before own ticks others deaf hs own_is same as_long all_long turns deafs heard =
      let is : own ≡ gated side waits at_rest ticks (silent lag ++ hs) =
      own_is ∙ gated-front at_rest (length hs) ticks (silent lag ++ hs) (omega arith) in
      subst (λ l. AreApart l deaf) (sym is)
      (keeps ticks others deaf same as_long hs lag 0 at_rest before before [] (silent lag ++ hs) all_long
      (omega arith) refl (λ few. absurd (omega arith)) (fits-nobody side lag) (ahead-nobody side before)
      tt refl refl
      (subst (λ l. OthersInTurn side kept before l others) is turns)
      (subst (λ l. DeafInTurn side waits lag before l others deaf) is deafs)
      (subst (λ l. AreHeard l others hs) is heard))
