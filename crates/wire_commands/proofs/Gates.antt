-- What a gate lets through and knows, as more ticks come.
use Rattle.std.proofs.Common.{◌≡◌, ◌∙◌, ℕ, zero, suc, ◌+◌, List, [], ◌∷◌, ◌++◌, length, refl, ap}
use Rattle.std.proofs.Common.{arith, append_assoc, append-nil, sym}
use Rattle.std.specs.Prelude.{if◌then◌else◌}
use Rattle.two_wire.specs.Gate.{GateState, lets, let_through, holds_back, gate_after, gated, held_steps}
use Rattle.two_wire.specs.Wires.{heard, hears}
use Rattle.two_wire.specs.declared.{gate.Side.Side, gate.Waits.Waits}
use Rattle.wire_commands.specs.Hearing.{gate_through}
use Rattle.yasir_ticks.specs.Ticks.{silent}
use Rattle.yasir_ticks.specs.declared.tick.Tick.{Tick, TheVariants.Silent}

pub hears-append : (x y u v : List Tick) → length x ≡ length u
    → hears (x ++ y) (u ++ v) ≡ hears x u ++ hears y v
hears-append [] y [] v same = refl
hears-append [] y (o ∷ u) v same = absurd (omega arith)
hears-append (t ∷ x) y [] v same = absurd (omega arith)
hears-append (t ∷ x) y (o ∷ u) v same =
    ap (λ l. heard t o ∷ l) (hears-append x y u v (omega arith))

module _ (side : Side) (waits : Waits) where
  pub gated-append : (g : GateState) (x y u v : List Tick) → length x ≡ length u
      → gated side waits g (x ++ y) (u ++ v)
      ≡ gated side waits g x u ++ gated side waits (gate_through side waits g x u) y v
  gated-append g [] y [] v same = refl
  gated-append g [] y (o ∷ u) v same = absurd (omega arith)
  gated-append g (t ∷ x) y [] v same = absurd (omega arith)
  gated-append g (t ∷ x) y (o ∷ u) v same =
      ap (λ l. let_through t (lets side waits g) ∷ l)
      (gated-append (gate_after side waits g t o) x y u v (omega arith))

  pub gate-append : (g : GateState) (x y u v : List Tick) → length x ≡ length u
      → gate_through side waits g (x ++ y) (u ++ v)
      ≡ gate_through side waits (gate_through side waits g x u) y v
  gate-append g [] y [] v same = refl
  gate-append g [] y (o ∷ u) v same = absurd (omega arith)
  gate-append g (t ∷ x) y [] v same = absurd (omega arith)
  gate-append g (t ∷ x) y (o ∷ u) v same =
      gate-append (gate_after side waits g t o) x y u v (omega arith)

  pub held-append : (n m : ℕ) (g : GateState) (x y u v : List Tick) → length x ≡ length u
      → n + length x ≡ m → held_steps side waits n g (x ++ y) (u ++ v)
      ≡ held_steps side waits n g x u
      ++ held_steps side waits m (gate_through side waits g x u) y v
  held-append n m g [] y [] v same is =
      let at : n ≡ m = omega (arith, is) in
      ap (λ k. held_steps side waits k g y v) at
  held-append n m g [] y (o ∷ u) v same is = absurd (omega arith)
  held-append n m g (t ∷ x) y [] v same is = absurd (omega arith)
  held-append n m g (t ∷ x) y (o ∷ u) v same is =
      let one : List ℕ = if holds_back side waits g t then n ∷ [] else [] in
      let next : GateState = gate_after side waits g t o in
      ap (λ l. one ++ l) (held-append (suc n) m next x y u v (omega arith) (omega (arith, is)))
      ∙ sym (append_assoc one (held_steps side waits (suc n) next x u)
      (held_steps side waits m (gate_through side waits next x u) y v))

  -- ---- silent ticks of the receiver

  gated-silent : (g : GateState) (m : ℕ) (others : List Tick) → length others ≡ m
      → gated side waits g (silent m) others ≡ silent m
  gated-silent g zero others long = refl
  gated-silent g (suc m) [] long = absurd (omega (arith, long))
  gated-silent g (suc m) (o ∷ others) long =
      ap (λ l. Silent ∷ l)
      (gated-silent (gate_after side waits g Silent o) m others (omega (arith, long)))

  held-silent : (n : ℕ) (g : GateState) (m : ℕ) (others : List Tick)
      → held_steps side waits n g (silent m) others ≡ []
  held-silent n g zero others = refl
  held-silent n g (suc m) [] = refl
  held-silent n g (suc m) (o ∷ others) =
      held-silent (suc n) (gate_after side waits g Silent o) m others

  -- a tick of the receiver with silence behind it
  pub gated-still : (g : GateState) (t : Tick) (m : ℕ) (others : List Tick)
      → length others ≡ suc m → gated side waits g (t ∷ silent m) others
      ≡ let_through t (lets side waits g) ∷ silent m
  gated-still g t m [] long = absurd (omega (arith, long))
  gated-still g t m (o ∷ others) long =
      ap (λ l. let_through t (lets side waits g) ∷ l)
      (gated-silent (gate_after side waits g t o) m others (omega (arith, long)))

  pub held-still : (n : ℕ) (g : GateState) (t : Tick) (m : ℕ) (others : List Tick)
      → length others ≡ suc m → held_steps side waits n g (t ∷ silent m) others
      ≡ (if holds_back side waits g t then n ∷ [] else [])
  held-still n g t m [] long = absurd (omega (arith, long))
  held-still n g t m (o ∷ others) long =
      let one : List ℕ = if holds_back side waits g t then n ∷ [] else [] in
      ap (λ l. one ++ l) (held-silent (suc n) (gate_after side waits g t o) m others)
      ∙ append-nil one

  pub gated-size : (g : GateState) (x u : List Tick) → length x ≡ length u
      → length (gated side waits g x u) ≡ length x
  gated-size g [] u same = refl
  gated-size g (t ∷ x) [] same = absurd (omega arith)
  gated-size g (t ∷ x) (o ∷ u) same =
      ap suc (gated-size (gate_after side waits g t o) x u (omega arith))
