-- If none of the bytes is early or overlaps the one before it, and their line isn't too long, all
-- are placed: none is late.
use Rattle.line_capture.specs.Able.{ArePlaced, IsPlacedWhole}
use Rattle.line_stamps.proofs.Clocks.{character-some, spot-is, tick-near, tick-far, line-length}
use Rattle.line_stamps.proofs.RoundingLaws.{rounded-some, apart-some, apart-least}
use Rattle.line_stamps.specs.Parts.{character, rounded, ticks_apart}
use Rattle.line_stamps.specs.Places.{Spot, spot_of, start_of, next_tick, line_of_places, last_spot_from}
use Rattle.line_stamps.specs.{Places.tick_placed_at, Placing.answer_at, Placing.is_early}
use Rattle.line_stamps.specs.Placing.{is_late, overlaps, overlaps_at, NoneRefused, silence_before}
use Rattle.line_stamps.specs.declared.{TheConstants.TIME_LIMIT, capture.CaptureByte.CaptureByte}
use Rattle.line_stamps.specs.declared.timing.{Spacing.TheVariants.ByTime, Timing.Timing}
use Rattle.std.proofs.Common.{◌≡◌, ◌∙◌, ℕ, ◌+◌, ◌-◌, ◌*◌, ◌<◌, ◌≤◌, ⊎_elim, List, [], ◌∷◌, length}
use Rattle.std.proofs.Common.{false, ◌||◌, Option, Some, None, Ok, refl, sym, ap, subst, arith}
use Rattle.std.proofs.{Common.add-mul, Common.nat_le, Math.Nat.mul-le-mul_right}
use Rattle.std.proofs.lemmas.Bool.{cases_lt, cond-false, lt-leb, ltb-false}
use Rattle.tick_drive.specs.Input.{max_ticks}

module _ (t : Timing) (by_time : t.spacing ≡ ByTime) where
  abbrev one : ℕ
  one = character t.rate

  -- A byte starts at most two characters after the origin for each tick before its own, and half a
  -- character more.
  abbrev IsNear : Spot → Type 0
  IsNear spot = 2 * spot.time ≤ 4 * (spot.tick * one) + one

  abbrev IsNearIf : Option Spot → Type 0
  IsNearIf None = Unit {0}
  IsNearIf (Some spot) = IsNear spot

  -- The starts of two bytes that don't overlap are half a character apart or more.
  apart-of : (before : Spot) (time : ℕ) → overlaps_at t.spacing (Some before) time one ≡ false
      → one ≤ 2 * (time - before.time)
  apart-of before time free =
      ltb-false (2 * (time - before.time)) one
      (subst (λ s. overlaps_at s (Some before) time one ≡ false) by_time free)

  -- A byte after one that is near is near too, over plain numbers.
  step-near : (before time tick time' tick' n : ℕ) → 0 < one → n ≡ ticks_apart (time' - time) one
      → one ≤ 2 * (time' - time) → 2 * time ≤ 4 * (tick * one) + one
      → tick' ≡ tick_placed_at n tick time' one → 2 * time' ≤ 4 * (tick' * one) + one
  step-near before time tick time' tick' n some is apart near at =
      ⊎_elim
      (λ (far : 321 < n).
      let e = at ∙ tick-far n tick time' one far in
      let most : rounded time' one ≤ tick' = omega arith in
      let long : rounded time' one * one ≤ tick' * one = mul-le-mul_right one most in
      let least = rounded-some one some time' in
      omega arith)
      (λ (few : n ≤ 321).
      let e = at ∙ tick-near n tick time' one few in
      let sum : tick' * one ≡ tick * one + n * one = ap (λ k. k * one) e ∙ add-mul tick n one in
      let least : 2 * (time' - time) ≤ 2 * (n * one) + one =
      subst (λ (k : ℕ). 2 * (time' - time) ≤ 2 * (k * one) + one) (sym is)
      (apart-least one some (time' - time) apart) in
      let more : 0 < n = subst (λ (k : ℕ). 0 < k) (sym is) (apart-some one some (time' - time)) in
      let long : 1 * one ≤ n * one = mul-le-mul_right one more in
      omega arith)
      (cases_lt 321 n)

  next-near : (last : Option Spot) (c : CaptureByte) → IsNearIf last → overlaps t last c ≡ false
      → IsNear (spot_of t last c)
  next-near None c near free =
      let least = rounded-some one (character-some t) (start_of t None c) in omega arith
  next-near (Some before) c near free =
      step-near 0 before.time before.tick (start_of t (Some before) c) (spot_of t (Some before) c).tick
      (ticks_apart (start_of t (Some before) c - before.time) one) (character-some t) refl
      (apart-of before (start_of t (Some before) c) free) near (spot-is t by_time before c)

  -- A byte that is near, in a tick of a line that isn't too long, isn't late.
  not-late : (spot : Spot) → IsNear spot → spot.tick < max_ticks → is_late spot ≡ false
  not-late spot near few =
      let most : t.rate.bits ≤ 11 = t.rate.most_bits in
      let long : spot.tick * one ≤ 16777216 * one = mul-le-mul_right one (omega arith) in
      let time : spot.time < TIME_LIMIT = omega arith in
      let tick : spot.tick < TIME_LIMIT = omega arith in
      ap (λ v. v || nat_le TIME_LIMIT spot.tick) (lt-leb TIME_LIMIT spot.time time)
      ∙ lt-leb TIME_LIMIT spot.tick tick

  answered-ok : (last : Option Spot) (c : CaptureByte) → is_early t last c ≡ false
      → is_late (spot_of t last c) ≡ false → overlaps t last c ≡ false
      → answer_at t last c ≡ Ok (silence_before last (spot_of t last c))
  answered-ok last c early late over =
      cond-false _ _ _ early ∙ cond-false _ _ _ late ∙ cond-false _ _ _ over

  placed-each : (last : Option Spot) (cs : List CaptureByte) → IsNearIf last → NoneRefused t last cs
      → next_tick (last_spot_from t last cs) ≤ max_ticks → ArePlaced t last cs
  placed-each last [] near free few = tt
  placed-each last (c ∷ cs) near free few =
      let here = next-near last c near free.1 in
      let behind = line-length t (Some (spot_of t last c)) cs in
      let late = not-late (spot_of t last c) here (omega arith) in (
        (silence_before last (spot_of t last c), answered-ok last c free.0 late free.1),
        placed-each (Some (spot_of t last c)) cs here free.2 few,
      )

  pub placed-whole : (cs : List CaptureByte) → NoneRefused t None cs
      → length (line_of_places t cs) ≤ max_ticks → IsPlacedWhole t cs
  placed-whole cs free few =
      let all = line-length t None cs in record {
        each = placed-each None cs tt free (omega arith);
        few = few;
      }
