-- A gate that has let bursts through before lets all through that one lets through that has just
-- begun.
use Rattle.std.proofs.Common.{◌≡◌, ◌∙◌, ◌⊎◌, inl, inr, ⊎_elim, ℕ, zero, suc, ◌+◌, ◌≤◌}
use Rattle.std.proofs.Common.{Bool, true, false, ◌||◌, nat_le, List, [], ◌∷◌, ◌++◌, length, drop, get_or}
use Rattle.std.proofs.Common.{refl, sym, ap, subst, arith}
use Rattle.std.proofs.lemmas.Bool.{cases_lt, cond-true, cond-false, le-leb, lt-leb}
use Rattle.yasir_ticks.specs.declared.tick.Tick.{Tick, TheVariants.Silent, TheVariants.Byte}
use Rattle.two_wire.specs.declared.gate.Side.{Side}
use Rattle.two_wire.specs.declared.gate.Side.TheVariants.{Asks, Answers}
use Rattle.two_wire.specs.declared.gate.Spoken.{Spoken}
use Rattle.two_wire.specs.declared.gate.Spoken.TheVariants.{Nobody, Asker, Answerer}
use Rattle.two_wire.specs.declared.gate.Waits.{Waits}
use Rattle.two_wire.specs.Gate.{GateState, lets, let_through, known_after, gate_after, gated}
use Rattle.two_wire.specs.Turns.{may_ask_on, may_speak, quiet_of}

-- ---- a gate goes on over a second line

module _ (side : Side) (waits : Waits) where
  pub gated-front : (g : GateState) (x y others behind : List Tick) → length x ≡ length others
      → (h : GateState) × (gated side waits g (x ++ y) (others ++ behind)
      ≡ gated side waits g x others ++ gated side waits h y behind)
  gated-front g [] y [] behind same = (g, refl)
  gated-front g [] y (other ∷ others) behind same = absurd (omega arith)
  gated-front g (t ∷ x) y [] behind same = absurd (omega arith)
  gated-front g (t ∷ x) y (other ∷ others) behind same =
      let rest = gated-front (gate_after side waits g t other) x y others behind (omega arith) in
      (rest.0, ap (λ l. let_through t (lets side waits g) ∷ l) rest.1)

-- ---- what a gate knows that has begun, and one that has worked before

-- Holds if one that has just begun has counted no more silent ticks, or both know the same.
abbrev pub KnowsMore : Spoken → Spoken → Type 0
KnowsMore s t = (s ≡ t) ⊎ ((q : ℕ) × (s ≡ Nobody q) × (q ≤ quiet_of t))

-- Holds if both are in the same burst, or the first is in none, and the second isn't in k ticks.
abbrev pub IsFree : ℕ → GateState → GateState → Type 0
IsFree k g h = ((g.quiet ≡ h.quiet) × (g.open_now ≡ h.open_now)) ⊎ ((2 ≤ g.quiet) × (2 ≤ h.quiet + k))

-- Holds if none of the first k of these ticks is a byte.
abbrev pub AreDark : ℕ → List Tick → Type 0
AreDark zero ticks = Unit {0}
AreDark (suc k) [] = Unit {0}
AreDark (suc k) (Silent ∷ ticks) = AreDark k ticks
AreDark (suc k) (Byte b ∷ ticks) = ⊥

-- ---- turns

waited : (a : Bool) → (a || false) ≡ true → a ≡ true
waited true is = refl
waited false is = cc

or-true : (a b : Bool) → a ≡ true → (a || b) ≡ true
or-true true b is = refl
or-true false b is = cc

asks-too : (waits : Waits) (q : ℕ) (t : Spoken) → waits.pause ≤ waits.window → q ≤ quiet_of t
    → may_speak Asks waits (Nobody q) ≡ true → may_speak Asks waits t ≡ true
asks-too waits q t fits less may =
    by-spoken t less (waited-is waits.window q (waited (nat_le waits.window q) may))
  where
    waited-is : (w q : ℕ) → nat_le w q ≡ true → w ≤ q
    waited-is w q is =
        ⊎_elim (λ few. absurd (let no = lt-leb w q few in cc)) (λ enough. enough) (cases_lt q w)

    by-spoken : (t : Spoken) → q ≤ quiet_of t → waits.window ≤ q → may_speak Asks waits t ≡ true
    by-spoken (Nobody r) less enough =
        or-true (nat_le waits.window r) (may_ask_on (Nobody r)) (le-leb waits.window r (omega arith))
    by-spoken (Asker r) less enough =
        or-true (nat_le waits.window r) (may_ask_on (Asker r)) (le-leb waits.window r (omega arith))
    by-spoken (Answerer r) less enough =
        or-true (nat_le waits.pause r) (may_ask_on (Answerer r)) (le-leb waits.pause r (omega arith))

speaks-too : (side : Side) (waits : Waits) (s t : Spoken)
    → (side ≡ Asks → waits.pause ≤ waits.window) → KnowsMore s t
    → may_speak side waits s ≡ true → may_speak side waits t ≡ true
speaks-too side waits s t fits (inl same) may = subst (λ u. may_speak side waits u ≡ true) same may
speaks-too Asks waits s t fits (inr (q, nobody, less)) may =
    asks-too waits q t (fits refl) less (subst (λ u. may_speak Asks waits u ≡ true) nobody may)
speaks-too Answers waits s t fits (inr (q, nobody, less)) may =
    let never : false ≡ true = subst (λ u. may_speak Answers waits u ≡ true) nobody may in cc

-- ---- one more tick

after-byte : (side : Side) (s t : Spoken) (b : ℕ) (other : Tick)
    → known_after side s (Byte b) other ≡ known_after side t (Byte b) other
after-byte Asks (Nobody p) (Nobody q) b other = refl
after-byte Asks (Nobody p) (Asker q) b other = refl
after-byte Asks (Nobody p) (Answerer q) b other = refl
after-byte Asks (Asker p) (Nobody q) b other = refl
after-byte Asks (Asker p) (Asker q) b other = refl
after-byte Asks (Asker p) (Answerer q) b other = refl
after-byte Asks (Answerer p) (Nobody q) b other = refl
after-byte Asks (Answerer p) (Asker q) b other = refl
after-byte Asks (Answerer p) (Answerer q) b other = refl
after-byte Answers s t b (Byte c) = refl
after-byte Answers s t b Silent = refl

after-silence : (side : Side) (s t : Spoken) (other : Tick) → KnowsMore s t
    → KnowsMore (known_after side s Silent other) (known_after side t Silent other)
after-silence side s t other (inl same) = inl (ap (λ u. known_after side u Silent other) same)
after-silence side s t other (inr (q, nobody, less)) =
    subst (λ u. KnowsMore (known_after side u Silent other) (known_after side t Silent other))
    (sym nobody) (by-side side t other less)
  where
    by-side : (z : Side) (t : Spoken) (other : Tick) → q ≤ quiet_of t
        → KnowsMore (known_after z (Nobody q) Silent other) (known_after z t Silent other)
    by-side Asks (Nobody r) Silent less = inr (suc q, refl, omega arith)
    by-side Asks (Asker r) Silent less = inr (suc q, refl, omega arith)
    by-side Asks (Answerer r) Silent less = inr (suc q, refl, omega arith)
    by-side Asks (Nobody r) (Byte c) less = inr (0, refl, omega arith)
    by-side Asks (Asker r) (Byte c) less = inr (0, refl, omega arith)
    by-side Asks (Answerer r) (Byte c) less = inr (0, refl, omega arith)
    by-side Answers t (Byte c) less = inl refl
    by-side Answers (Nobody r) Silent less = inr (suc q, refl, omega arith)
    by-side Answers (Asker r) Silent less = inr (suc q, refl, omega arith)
    by-side Answers (Answerer r) Silent less = inr (suc q, refl, omega arith)

-- ---- all ticks

module _ (side : Side) (waits : Waits) (fits : side ≡ Asks → waits.pause ≤ waits.window) where
  lets-too : (g h : GateState) → KnowsMore g.spoken h.spoken → IsFree 0 g h
      → lets side waits g ≡ true → lets side waits h ≡ true
  lets-too g h knows free is =
      ⊎_elim
      (λ inside.
      let same : g.quiet ≡ h.quiet = inside.0 in
      ⊎_elim
      (λ few.
      cond-false _ _ _ (lt-leb 2 h.quiet few)
      ∙ (sym inside.1 ∙ (sym (cond-false _ _ _ (lt-leb 2 g.quiet (omega arith))) ∙ is)))
      (λ enough.
      cond-true _ _ _ (le-leb 2 h.quiet enough)
      ∙ speaks-too side waits g.spoken h.spoken fits knows
      (sym (cond-true _ _ _ (le-leb 2 g.quiet (omega arith))) ∙ is))
      (cases_lt h.quiet 2))
      (λ between.
      let first : 2 ≤ g.quiet = between.0 in
      let second : 2 ≤ h.quiet = omega arith in
      cond-true _ _ _ (le-leb 2 h.quiet second)
      ∙ speaks-too side waits g.spoken h.spoken fits knows
      (sym (cond-true _ _ _ (le-leb 2 g.quiet first)) ∙ is))
      free

  first-through : (b : ℕ) (w : Bool) (x y : List Tick) → let_through (Byte b) w ∷ x ≡ Byte b ∷ y
      → w ≡ true
  first-through b true x y is = refl
  first-through b false x y is =
      let no : Silent ≡ Byte b = ap (λ l. get_or l 0 Silent) is in cc

  free-waits : (k : ℕ) (g h : GateState) (other : Tick) → IsFree (suc k) g h
      → IsFree k (gate_after side waits g Silent other) (gate_after side waits h Silent other)
  free-waits k g h other (inl inside) =
      let same : g.quiet ≡ h.quiet = inside.0 in inl (omega arith, inside.1)
  free-waits k g h other (inr between) =
      let first : 2 ≤ g.quiet = between.0 in
      let second : 2 ≤ h.quiet + suc k = between.1 in
      inr (omega arith, omega arith)

  free-zero : (g h : GateState) (other : Tick) → IsFree 0 g h
      → IsFree 0 (gate_after side waits g Silent other) (gate_after side waits h Silent other)
  free-zero g h other (inl inside) =
      let same : g.quiet ≡ h.quiet = inside.0 in inl (omega arith, inside.1)
  free-zero g h other (inr between) =
      let first : 2 ≤ g.quiet = between.0 in
      let second : 2 ≤ h.quiet + 0 = between.1 in
      inr (omega arith, omega arith)

  pub lets-all-too : (k : ℕ) (g h : GateState) (ticks others : List Tick)
      → KnowsMore g.spoken h.spoken → IsFree k g h → AreDark k ticks
      → gated side waits g ticks others ≡ ticks → gated side waits h ticks others ≡ ticks
  lets-all-too k g h [] others knows free dark is = refl
  lets-all-too k g h (t ∷ ticks) [] knows free dark is =
      let no = ap length is in absurd (omega arith)
  lets-all-too zero g h (Silent ∷ ticks) (other ∷ others) knows free dark is =
      ap (λ l. Silent ∷ l)
      (lets-all-too zero (gate_after side waits g Silent other) (gate_after side waits h Silent other)
      ticks others (after-silence side g.spoken h.spoken other knows) (free-zero g h other free) tt
      (ap (λ l. drop 1 l) is))
  lets-all-too (suc k) g h (Silent ∷ ticks) (other ∷ others) knows free dark is =
      ap (λ l. Silent ∷ l)
      (lets-all-too k (gate_after side waits g Silent other) (gate_after side waits h Silent other)
      ticks others (after-silence side g.spoken h.spoken other knows) (free-waits k g h other free)
      dark (ap (λ l. drop 1 l) is))
  lets-all-too (suc k) g h (Byte b ∷ ticks) (other ∷ others) knows free dark is = absurd dark
  lets-all-too zero g h (Byte b ∷ ticks) (other ∷ others) knows free dark is =
      let one : lets side waits g ≡ true = first-through b (lets side waits g)
      (gated side waits (gate_after side waits g (Byte b) other) ticks others) ticks is in
      let two : lets side waits h ≡ true = lets-too g h knows free one in
      let P : Bool → Bool → Type 0 = λ v w. KnowsMore
      (known_after side g.spoken (let_through (Byte b) v) other)
      (known_after side h.spoken (let_through (Byte b) w) other) in
      let then : P (lets side waits g) (lets side waits h) =
      subst (λ v. P v (lets side waits h)) (sym one)
      (subst (λ w. P true w) (sym two) (inl (after-byte side g.spoken h.spoken b other))) in
      ap (λ w. let_through (Byte b) w
      ∷ gated side waits (gate_after side waits h (Byte b) other) ticks others) two
      ∙ ap (λ l. Byte b ∷ l)
      (lets-all-too zero (gate_after side waits g (Byte b) other)
      (gate_after side waits h (Byte b) other) ticks others then (inl (refl, one ∙ sym two)) tt
      (ap (λ l. drop 1 l) is))
