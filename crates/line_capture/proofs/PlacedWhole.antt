-- Bytes of a way that are all placed.
use Rattle.line_capture.specs.Able.{ArePlaced, IsPlacedWhole}
use Rattle.line_capture.specs.{Placed.PlacedStopsAt, declared.placing.LineStop.LineStop}
use Rattle.line_stamps.specs.Places.{Spot, spot_of, placed_from, ticks_from, line_of_places, PlacedByte}
use Rattle.line_stamps.specs.Places.{last_spot_from, placed_at}
use Rattle.line_stamps.specs.{Placing.answer_at, declared.capture.CaptureByte.CaptureByte}
use Rattle.line_stamps.specs.declared.{placer.Unplaced.Unplaced, timing.Timing.Timing}
use Rattle.std.proofs.Common.{◌≡◌, ◌∙◌, ℕ, suc, ◌-◌, ◌≤◌, List, [], ◌∷◌, ◌++◌, length, refl, sym}
use Rattle.std.proofs.Common.{ap, subst, arith, Option, Some, None, Ok, Err, length-append}
use Rattle.std.proofs.Common.{append_assoc}
use Rattle.yasir_ticks.specs.{Ticks.silent, declared.tick.Tick.TheVariants.Byte}
use Rattle.line_capture.specs.declared.placing.LineStop.TheVariants as stops

-- the ticks of some first bytes are no more than those of all
ticks-front : (n : ℕ) (x y : List PlacedByte) → length (ticks_from n x) ≤ length (ticks_from n (x ++ y))
ticks-front n [] y = omega arith
ticks-front n (p ∷ x) y =
    let h = ticks-front (suc p.spot.tick) x y in
    let e = length-append (silent (p.spot.tick - n)) (Byte p.byte ∷ ticks_from (suc p.spot.tick) x) in
    let f = length-append (silent (p.spot.tick - n))
    (Byte p.byte ∷ ticks_from (suc p.spot.tick) (x ++ y)) in
    omega arith

module _ (t : Timing) where
  placed-append : (last : Option Spot) (x y : List CaptureByte)
      → placed_from t last (x ++ y)
      ≡ placed_from t last x ++ placed_from t (last_spot_from t last x) y
  placed-append last [] y = refl
  placed-append last (c ∷ x) y =
      ap (λ l. placed_at (spot_of t last c) c ∷ l) (placed-append (Some (spot_of t last c)) x y)

  pub line-front : (x y : List CaptureByte) → length (line_of_places t x) ≤ length (line_of_places t (x ++ y))
  line-front x y =
      subst (λ l. length (line_of_places t x) ≤ length (ticks_from 0 l)) (sym (placed-append None x y))
      (ticks-front 0 (placed_from t None x) (placed_from t (last_spot_from t None x) y))

  answered : (last : Option Spot) (front : List CaptureByte) (c : CaptureByte)
      (rest : List CaptureByte) → ArePlaced t last (front ++ c ∷ rest)
      → (silence : ℕ) × (answer_at t (last_spot_from t last front) c ≡ Ok silence)
  answered last [] c rest all = all.0
  answered last (x ∷ front) c rest all = answered (Some (spot_of t last x)) front c rest all.1

  -- No byte is left unplaced.
  pub all_placed : (cs front rest : List CaptureByte) (stop : LineStop) → cs ≡ front ++ rest
      → IsPlacedWhole t cs → PlacedStopsAt t front rest stop → stop ≡ stops.AllPlaced
  all_placed cs front rest stops.AllPlaced is whole stop = refl
  all_placed cs front [] (stops.Unplaced why) is whole stop = absurd stop
  all_placed cs front (c ∷ rest) (stops.Unplaced why) is whole stop =
      let ok = answered None front c rest (subst (ArePlaced t None) is whole.each) in
      let good = ok.1 in absurd (differ ok.0 why (sym good ∙ stop))
    where
      differ : (silence : ℕ) (why : Unplaced) → Ok silence ≡ Err why → ⊥
      differ silence why e = cc
  all_placed cs front [] (stops.TooLong count) is whole stop = absurd stop
  all_placed cs front (c ∷ rest) (stops.TooLong count) is whole stop =
      let more : cs ≡ (front ++ c ∷ []) ++ rest = is ∙ sym (append_assoc front (c ∷ []) rest) in
      let h = line-front (front ++ c ∷ []) rest in
      let e = ap (λ l. length (line_of_places t l)) more in
      let few = whole.few in
      let count_is = stop.0 in
      let above = stop.1 in
      absurd (omega arith)

  pub nothing_left : (front rest : List CaptureByte) (stop : LineStop) → PlacedStopsAt t front rest stop
      → stop ≡ stops.AllPlaced → rest ≡ []
  nothing_left front rest stop at is = subst (PlacedStopsAt t front rest) is at
