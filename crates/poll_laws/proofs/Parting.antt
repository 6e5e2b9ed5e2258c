-- What a box says and what devices say beside it are apart by silence, if the turns are kept.
use Rattle.poll_laws.proofs.GatesOn.{AreDark}
use Rattle.poll_laws.proofs.Merging.{AreParted}
use Rattle.poll_laws.specs.Among.{WaitsBehind, AnswerAfter, AsksApart}
use Rattle.std.proofs.Common.{◌≡◌, ⊎_elim, ℕ, zero, suc, ◌+◌, ◌≤◌, ◌<◌, Bool, true, false}
use Rattle.std.proofs.Common.{◌&&◌, nat_le, nat_lt, List, [], ◌∷◌, length, refl, sym, subst}
use Rattle.std.proofs.Common.{arith}
use Rattle.std.proofs.lemmas.Bool.{cases_lt, lt-ltb, lt-leb}
use Rattle.line_rules.specs.Rules.{Rules}
use Rattle.two_wire.proofs.{Ends.deaf-apart, Ends.others-apart, Sharing.are-heard}
use Rattle.two_wire.proofs.Keeping.{AreHeard}
use Rattle.two_wire.specs.TwoWire.{EndSetup, EndWires, IsTwoWire, heard_device, heard_lines}
use Rattle.two_wire.specs.TwoWire.{KeepTurns, KeepTurnsDeafly}
use Rattle.two_wire.specs.Turns.{after, may_be_deaf, after_own, OthersInTurn, DeafInTurn, MaySay}
use Rattle.two_wire.specs.Turns.{MayBeDeaf, AreWithin}
use Rattle.two_wire.specs.Wires.{drives, hears, AreApart, IsApart}
use Rattle.two_wire.specs.declared.gate.Side.{Side}
use Rattle.two_wire.specs.declared.gate.Side.TheVariants.{Asks, Answers}
use Rattle.two_wire.specs.declared.gate.Spoken.{Spoken}
use Rattle.two_wire.specs.declared.gate.Spoken.TheVariants.{Nobody, Asker, Answerer}
use Rattle.two_wire.specs.declared.gate.Waits.{Waits}
use Rattle.yasir_ticks.specs.declared.tick.Tick.{Tick, TheVariants.Silent, TheVariants.Byte}

-- ---- all ticks in which one may be deaf

abbrev marked : Bool → Tick
marked true = Byte 0
marked false = Silent

module _ (side : Side) (waits : Waits) (lag : ℕ) where
  -- a byte in each tick in which one of the others may be deaf
  abbrev pub may_be : Spoken → List Tick → List Tick → List Tick
  may_be s [] others = []
  may_be s (x ∷ own) [] = []
  may_be s (x ∷ own) (o ∷ others) =
      marked (may_be_deaf side waits lag s) ∷ may_be (after_own side s x o) own others

  may-be-long : (s : Spoken) (own others : List Tick) → length own ≡ length others
      → length (may_be s own others) ≡ length others
  may-be-long s [] [] same = refl
  may-be-long s [] (o ∷ others) same = absurd (omega arith)
  may-be-long s (x ∷ own) [] same = absurd (omega arith)
  may-be-long s (x ∷ own) (o ∷ others) same =
      let rest = may-be-long (after_own side s x o) own others (omega arith) in omega arith

  marked-may : (s : Spoken) (w : Bool) → may_be_deaf side waits lag s ≡ w
      → MayBeDeaf side waits lag s (marked w)
  marked-may s true is = is
  marked-may s false is = tt

  may-be-in-turn : (s : Spoken) (own others : List Tick)
      → DeafInTurn side waits lag s own others (may_be s own others)
  may-be-in-turn s [] others = tt
  may-be-in-turn s (x ∷ own) [] = tt
  may-be-in-turn s (x ∷ own) (o ∷ others) = (
    marked-may s (may_be_deaf side waits lag s) refl,
    may-be-in-turn (after_own side s x o) own others,
  )

-- ---- turns

not-both : (a b : Bool) → a ≡ false → (a && b) ≡ true → ⊥
not-both true b wrong is = cc
not-both false b wrong is = cc

both-true : (a b : Bool) → a ≡ true → b ≡ true → (a && b) ≡ true
both-true true true one two = refl
both-true true false one two = cc
both-true false b one two = cc

-- Those who keep the turns wait for the silence that ends a frame.
waits-behind : (kept : Waits) (gap : ℕ) → gap ≤ 4 → (s : Spoken) (other : Tick)
    → MaySay Answers kept s other → WaitsBehind gap s other
waits-behind kept gap few s Silent may = tt
waits-behind kept gap few (Nobody q) (Byte b) may = tt
waits-behind kept gap few (Answerer q) (Byte b) may = tt
waits-behind kept gap few (Asker q) (Byte b) may =
    ⊎_elim
    (λ soon. absurd (not-both (nat_le 4 q) (nat_lt q kept.window) (lt-leb 4 q soon) may))
    (λ (late : 4 ≤ q). omega arith)
    (cases_lt q 4)

answer-after : (kept : Waits) (gap : ℕ) → gap ≤ 4 → (s : Spoken) (own others : List Tick)
    → OthersInTurn Asks kept s own others → AnswerAfter gap s own others
answer-after kept gap few s [] others turns = tt
answer-after kept gap few s (x ∷ own) [] turns = tt
answer-after kept gap few s (x ∷ own) (o ∷ others) turns = (
  waits-behind kept gap few s o turns.0,
  answer-after kept gap few (after s x o) own others turns.1,
)

module _ (gap : ℕ) where
  -- Behind a byte of the asker the others are silent for `gap` ticks.
  others-dark : (q k : ℕ) (own others : List Tick) → q + k ≤ gap → length own ≡ length others
      → AnswerAfter gap (Asker q) own others → AreDark k others
  others-dark q zero own others few same turns = tt
  others-dark q (suc k) own [] few same turns = tt
  others-dark q (suc k) [] (o ∷ others) few same turns = absurd (omega arith)
  others-dark q (suc k) (Silent ∷ own) (Silent ∷ others) few same turns =
      others-dark (suc q) k own others (omega arith) (omega arith) turns.1
  others-dark q (suc k) (Byte b ∷ own) (Silent ∷ others) few same turns =
      others-dark 0 k own others (omega arith) (omega arith) turns.1
  others-dark q (suc k) (x ∷ own) (Byte c ∷ others) few same turns =
      let late : gap ≤ q = turns.0 in absurd (omega arith)

module _ (gap : ℕ) (waits : Waits) (lag : ℕ) (pause : gap ≤ waits.pause + lag)
    (window : gap ≤ waits.window) where
  deaf-soon : (q : ℕ) → q < gap → may_be_deaf Asks waits lag (Answerer q) ≡ true
  deaf-soon q soon =
      let one : q < waits.pause + lag = omega arith in
      let two : q < waits.window = omega arith in
      both-true (nat_lt q (waits.pause + lag)) (nat_lt q waits.window)
      (lt-ltb q (waits.pause + lag) one) (lt-ltb q waits.window two)

  -- Behind a byte of the others the box is silent for `gap` ticks.
  own-dark : (q k : ℕ) (own others : List Tick) → q + k ≤ gap → length own ≡ length others
      → AreApart own (may_be Asks waits lag (Answerer q) own others) → AreDark k own
  own-dark q zero own others few same apart = tt
  own-dark q (suc k) [] others few same apart = tt
  own-dark q (suc k) (x ∷ own) [] few same apart = absurd (omega arith)
  own-dark q (suc k) (Silent ∷ own) (Silent ∷ others) few same apart =
      own-dark (suc q) k own others (omega arith) (omega arith) apart.1
  own-dark q (suc k) (Silent ∷ own) (Byte c ∷ others) few same apart =
      own-dark 0 k own others (omega arith) (omega arith) apart.1
  own-dark q (suc k) (Byte b ∷ own) (o ∷ others) few same apart =
      let soon : q < gap = omega arith in
      subst (λ w. IsApart (Byte b) (marked w)) (deaf-soon q soon) apart.0

  -- ---- both

  within-dark : (k : ℕ) (y others : List Tick) → AreWithin y others → AreDark k others → AreDark k y
  within-dark zero y others within dark = tt
  within-dark (suc k) [] others within dark = tt
  within-dark (suc k) (t ∷ y) [] within dark = absurd within
  within-dark (suc k) (Silent ∷ y) (Silent ∷ others) within dark =
      within-dark k y others within.1 dark
  within-dark (suc k) (Byte b ∷ y) (Silent ∷ others) within dark = absurd within.0
  within-dark (suc k) (t ∷ y) (Byte c ∷ others) within dark = absurd dark

  parted : (s : Spoken) (own others y : List Tick) → length own ≡ length others
      → length y ≡ length others → AreWithin y others → AnswerAfter gap s own others
      → AreApart own others → AreApart own (may_be Asks waits lag s own others)
      → AreParted gap own y
  parted s [] [] [] same long within turns apart clear = tt
  parted s [] [] (t ∷ y) same long within turns apart clear = absurd (omega arith)
  parted s [] (o ∷ others) y same long within turns apart clear = absurd (omega arith)
  parted s (x ∷ own) [] y same long within turns apart clear = absurd (omega arith)
  parted s (x ∷ own) (o ∷ others) [] same long within turns apart clear = absurd (omega arith)
  parted s (Silent ∷ own) (o ∷ others) (Silent ∷ y) same long within turns apart clear = (
    tt,
    tt,
    tt,
    parted (after s Silent o) own others y (omega arith) (omega arith) within.1 turns.1
        apart.1 clear.1,
  )
  parted s (Byte b ∷ own) (Silent ∷ others) (Silent ∷ y) same long within turns apart clear =
      let less : length own ≡ length others = omega arith in
      let few : 0 + gap ≤ gap = omega arith in (
        tt,
        within-dark gap y others within.1 (others-dark gap 0 gap own others few less turns.1),
        tt,
        parted (Asker 0) own others y less (omega arith) within.1 turns.1 apart.1 clear.1,
      )
  parted s (Byte b ∷ own) (Byte c ∷ others) y same long within turns apart clear = absurd apart.0
  parted s (x ∷ own) (Silent ∷ others) (Byte c ∷ y) same long within turns apart clear =
      absurd within.0
  parted s (Silent ∷ own) (Byte o ∷ others) (Byte c ∷ y) same long within turns apart clear =
      let less : length own ≡ length others = omega arith in
      let few : 0 + gap ≤ gap = omega arith in (
        tt,
        tt,
        own-dark 0 gap own others few less clear.1,
        parted (Answerer 0) own others y less (omega arith) within.1 turns.1 apart.1 clear.1,
      )

-- ---- a box beside devices

module _ (rules : Rules) (end : EndSetup) (w : EndWires) (is : IsTwoWire rules end w)
    (others : List Tick) (wires_are : w.device_wires ≡ drives w.to_device others)
    (turns : KeepTurns end w.to_device others) where
  heard-are : AreHeard w.to_device others (heard_device w)
  heard-are = subst (λ x. AreHeard w.to_device others (hears w.to_device x)) (sym wires_are)
      (are-heard w.to_device others (sym turns.same_ticks))

  pub box-apart : AreApart w.to_device others
  box-apart = others-apart rules end (heard_lines w) is.drives_lines others heard-are turns

  pub deafly-apart : (deaf : List Tick) → KeepTurnsDeafly end w.to_device others deaf
      → AreApart w.to_device deaf
  deafly-apart deaf deafly =
      deaf-apart rules end (heard_lines w) is.drives_lines others deaf heard-are deafly

  abbrev may : Side → List Tick
  may z = may_be z end.waits end.lag turns.before w.to_device others

  clear : AreApart w.to_device (may end.side)
  clear = deafly-apart (may end.side) (record {
    turns = turns;
    deaf_ticks = may-be-long end.side end.waits end.lag turns.before w.to_device others
        (sym turns.same_ticks);
    deaf_in_turn = may-be-in-turn end.side end.waits end.lag turns.before w.to_device others;
  })

  -- What the box says is parted from what is heard of the devices.
  pub box-parted : (gap : ℕ) → AsksApart gap end w.to_device others turns → (y : List Tick)
      → length y ≡ length others → AreWithin y others → AreParted gap w.to_device y
  box-parted gap asks y long within =
      let after_box : AnswerAfter gap turns.before w.to_device others =
      ⊎_elim
      (λ few. answer-after turns.kept gap few turns.before w.to_device others
      (subst (λ z. OthersInTurn z turns.kept turns.before w.to_device others) asks.asks turns.in_turn))
      (λ all. all)
      asks.answers in
      parted gap end.waits end.lag asks.pause asks.window turns.before w.to_device others y
      (sym turns.same_ticks) long within after_box box-apart
      (subst (λ z. AreApart w.to_device (may z)) asks.asks clear)
