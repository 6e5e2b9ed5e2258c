-- A gate that asks says nothing when it begins, until nobody has said anything for `window` ticks.
use Rattle.std.proofs.Common.{◌≡◌, ◌∙◌, ◌⊎◌, inl, inr, ℕ, zero, suc, ◌+◌, ◌-◌, ◌≤◌, ◌<◌, Bool, true}
use Rattle.std.proofs.Common.{false, List, [], ◌∷◌, ◌++◌, length, take, drop, refl, sym, ap, subst}
use Rattle.std.proofs.Common.{arith, ⊎_elim, append_assoc}
use Rattle.std.proofs.lemmas.Bool.{cases_Bool, cases_lt, cond-true, cond-false, le-leb, lt-leb}
use Rattle.std.proofs.lemmas.List.{take_all, length-replicate}
use Rattle.yasir_ticks.specs.Ticks.{silent}
use Rattle.yasir_ticks.specs.declared.tick.Tick.{Tick, TheVariants.Silent, TheVariants.Byte}
use Rattle.two_wire.specs.declared.gate.Side.TheVariants.{Asks, Answers}
use Rattle.two_wire.specs.declared.gate.Spoken.{Spoken}
use Rattle.two_wire.specs.declared.gate.Spoken.TheVariants.{Nobody, Asker, Answerer}
use Rattle.two_wire.specs.declared.gate.Waits.{Waits}
use Rattle.two_wire.specs.Gate.{GateState, at_rest, lets, let_through, known_after, gate_after, gated}
use Rattle.two_wire.specs.Starts.{WaitsFirst}
use Rattle.two_wire.specs.Turns.{may_ask, may_speak}
use Rattle.two_wire.proofs.Keeping.{with_byte}

one-more : (x : ℕ) (l : List Tick) → silent x ++ (Silent ∷ l) ≡ silent (suc x) ++ l
one-more zero l = refl
one-more (suc x) l = ap (λ y. Silent ∷ y) (one-more x l)

drop-past : (x k : ℕ) (t : Tick) (l : List Tick)
    → drop (suc (x + k)) (silent x ++ (t ∷ l)) ≡ drop k l
drop-past zero k t l = let same : 0 + k ≡ k = omega arith in ap (λ n. drop n l) same
drop-past (suc x) k t l =
    let same : suc (suc x + k) ≡ suc (suc (x + k)) = omega arith in
    ap (λ n. drop n (silent (suc x) ++ (t ∷ l))) same ∙ drop-past x k t l

drop-quiet : (k w x : ℕ) → k + w ≡ x → drop k (silent x ++ []) ≡ silent w
drop-quiet zero w zero sum = let none : 0 ≡ w = omega arith in ap (λ n. silent n) none
drop-quiet zero w (suc x) sum =
    let same : suc x ≡ w = omega arith in whole (suc x) ∙ ap (λ n. silent n) same
  where
    whole : (n : ℕ) → silent n ++ [] ≡ silent n
    whole zero = refl
    whole (suc n) = ap (λ l. Silent ∷ l) (whole n)
drop-quiet (suc k) w zero sum = absurd (omega arith)
drop-quiet (suc k) w (suc x) sum = drop-quiet k w x (omega arith)

none-left : (w : ℕ) → silent 0 ≡ take w (silent 0)
none-left zero = refl
none-left (suc w) = refl

module _ (waits : Waits) where
  -- Holds if after x silent ticks of all, n more ticks of its own are silent, and the last `window`
  -- of all those are of the others.
  record First (x : ℕ) (own heard : List Tick) : Type 0 where
    n : ℕ
    k : ℕ
    rest : List Tick
    own_is : own ≡ silent n ++ rest
    sum : k + waits.window ≡ x + n
    heard_is : drop k (silent x ++ take n heard) ≡ silent waits.window

  -- what is claimed of the ticks of a gate that has heard nobody for x ticks
  abbrev Begins : ℕ → List Tick → List Tick → Type 0
  Begins x own heard = (own ≡ silent (length own)) ⊎ First x own heard

  -- a tick in which the box says nothing, and the others don't either, or do
  quiet-tick : (x : ℕ) (own heard : List Tick) → Begins (suc x) own heard
      → Begins x (Silent ∷ own) (Silent ∷ heard)
  quiet-tick x own heard then =
      ⊎_elim (λ none. inl (ap (λ l. Silent ∷ l) none))
      (λ (first : First (suc x) own heard).
      let sum = first.sum in
      let moved : First x (Silent ∷ own) (Silent ∷ heard) = record {
        n = suc first.n;
        k = first.k;
        rest = first.rest;
        own_is = ap (λ l. Silent ∷ l) first.own_is;
        sum = omega arith;
        heard_is = ap (drop first.k) (one-more x (take first.n heard)) ∙ first.heard_is;
      } in
      inr moved)
      then

  heard-tick : (x c : ℕ) (own heard : List Tick) → Begins 0 own heard
      → Begins x (Silent ∷ own) (Byte c ∷ heard)
  heard-tick x c own heard then =
      ⊎_elim (λ none. inl (ap (λ l. Silent ∷ l) none))
      (λ (first : First 0 own heard).
      let sum = first.sum in
      let moved : First x (Silent ∷ own) (Byte c ∷ heard) = record {
        n = suc first.n;
        k = suc (x + first.k);
        rest = first.rest;
        own_is = ap (λ l. Silent ∷ l) first.own_is;
        sum = omega arith;
        heard_is = drop-past x first.k (Byte c) (take first.n heard) ∙ first.heard_is;
      } in
      inr moved)
      then

  abbrev IsClosed : GateState → Type 0
  IsClosed g = g.quiet < 2 → g.open_now ≡ false

  -- a byte that is let through, at last
  may-begin : (g : GateState) (x : ℕ) → g.spoken ≡ Nobody x → IsClosed g → lets Asks waits g ≡ true
      → waits.window ≤ x
  may-begin g x is closed lets_is =
      ⊎_elim
      (λ few.
      let shut : g.open_now ≡ false = closed few in
      let on : g.open_now ≡ true = sym (cond-false _ _ _ (lt-leb 2 g.quiet few)) ∙ lets_is in
      absurd (cc))
      (λ enough.
      let may : may_speak Asks waits g.spoken ≡ true =
      sym (cond-true _ _ _ (le-leb 2 g.quiet enough)) ∙ lets_is in
      let now : may_speak Asks waits (Nobody x) ≡ true =
      subst (λ s. may_speak Asks waits s ≡ true) is may in
      grind arith)
      (cases_lt g.quiet 2)

  first-word : (x b : ℕ) (own heard : List Tick) → waits.window ≤ x
      → First x (Byte b ∷ own) heard
  first-word x b own heard enough = record {
    n = 0;
    k = x - waits.window;
    rest = Byte b ∷ own;
    own_is = refl;
    sum = omega arith;
    heard_is = drop-quiet (x - waits.window) waits.window x (omega arith);
  }

  -- whether a byte of the receiver is let through or not
  one-byte : (g : GateState) (x b : ℕ) (o : Tick) (ticks heard : List Tick) → g.spoken ≡ Nobody x
      → IsClosed g
      → ((h : GateState) (y : ℕ) → h.spoken ≡ Nobody y → IsClosed h
      → Begins y (gated Asks waits h ticks heard) heard)
      → (w : Bool) → lets Asks waits g ≡ w
      → Begins x (let_through (Byte b) w ∷ gated Asks waits (with_byte Asks g b o w) ticks heard)
      (o ∷ heard)
  one-byte g x b o ticks heard is closed next true lets_is =
      inr (first-word x b (gated Asks waits (with_byte Asks g b o true) ticks heard) (o ∷ heard)
      (may-begin g x is closed lets_is))
  one-byte g x b Silent ticks heard is closed next false lets_is =
      let h : GateState = with_byte Asks g b Silent false in
      quiet-tick x (gated Asks waits h ticks heard) heard
      (next h (suc x) (ap (λ s. known_after Asks s Silent Silent) is) (λ few. refl))
  one-byte g x b (Byte c) ticks heard is closed next false lets_is =
      let h : GateState = with_byte Asks g b (Byte c) false in
      heard-tick x c (gated Asks waits h ticks heard) heard
      (next h 0 (ap (λ s. known_after Asks s Silent (Byte c)) is) (λ few. refl))

  begins : (ticks heard : List Tick) (g : GateState) (x : ℕ) → g.spoken ≡ Nobody x → IsClosed g
      → Begins x (gated Asks waits g ticks heard) heard
  begins [] heard g x is closed = inl refl
  begins (t ∷ ticks) [] g x is closed = inl refl
  begins (Silent ∷ ticks) (Silent ∷ heard) g x is closed =
      let h : GateState = gate_after Asks waits g Silent Silent in
      quiet-tick x (gated Asks waits h ticks heard) heard
      (begins ticks heard h (suc x) (ap (λ s. known_after Asks s Silent Silent) is)
      (λ few. closed (omega arith)))
  begins (Silent ∷ ticks) (Byte c ∷ heard) g x is closed =
      let h : GateState = gate_after Asks waits g Silent (Byte c) in
      heard-tick x c (gated Asks waits h ticks heard) heard
      (begins ticks heard h 0 (ap (λ s. known_after Asks s Silent (Byte c)) is)
      (λ few. closed (omega arith)))
  begins (Byte b ∷ ticks) (o ∷ heard) g x is closed =
      one-byte g x b o ticks heard is closed (λ h y h_is shut. begins ticks heard h y h_is shut)
      (lets Asks waits g) refl

  pub waits-first : (ticks heard : List Tick)
      → (gated Asks waits at_rest ticks heard
      ≡ silent (length (gated Asks waits at_rest ticks heard)))
      ⊎ WaitsFirst waits.window (gated Asks waits at_rest ticks heard) heard
  waits-first ticks heard =
      let own : List Tick = gated Asks waits at_rest ticks heard in
      ⊎_elim (λ none. inl none)
      (λ (first : First 0 own heard).
      let sum = first.sum in
      let all : first.n ≡ first.k + waits.window = omega arith in
      let waited : WaitsFirst waits.window own heard = record {
        before = first.k;
        rest = first.rest;
        own_is = first.own_is ∙ ap (λ i. silent i ++ first.rest) all;
        heard_is = sym (take-drop first.k waits.window heard)
            ∙ (ap (λ i. drop first.k (take i heard)) (sym all) ∙ first.heard_is);
      } in
      inr waited)
      (begins ticks heard at_rest 0 refl (λ few. absurd (omega arith)))
    where
      take-drop : (k w : ℕ) (l : List Tick) → drop k (take (k + w) l) ≡ take w (drop k l)
      take-drop zero w l = let same : 0 + w ≡ w = omega arith in ap (λ i. take i l) same
      take-drop (suc k) w [] =
          let same : suc k + w ≡ suc (k + w) = omega arith in
          ap (λ i. drop (suc k) (take i (silent 0))) same ∙ none-left w
      take-drop (suc k) w (t ∷ l) =
          let same : suc k + w ≡ suc (k + w) = omega arith in
          ap (λ i. drop (suc k) (take i (t ∷ l))) same ∙ take-drop k w l
