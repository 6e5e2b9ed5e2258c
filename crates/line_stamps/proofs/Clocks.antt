-- The ticks of a line keep to the times of a capture.
use Rattle.line_stamps.proofs.RoundingLaws.{apart-some, apart-inside, apart-end, apart-most}
use Rattle.line_stamps.proofs.RoundingLaws.{apart-is, apart-least, rounded-most, rounded-some}
use Rattle.line_stamps.specs.Clock.{AllNext, time_between, KeepsEdges, KeepsTime, WithinHalf}
use Rattle.line_stamps.specs.{Clock.ArePartedRecords, Giving.bytes_from, Giving.at_tick}
use Rattle.line_stamps.specs.Parts.{character, rounded, ticks_apart}
use Rattle.line_stamps.specs.Places.{Spot, PlacedByte, tick_placed_at, spot_of, steps_apart, placed_at}
use Rattle.line_stamps.specs.Places.{placed_from, placed, ticks_from, next_tick, last_spot_from}
use Rattle.line_stamps.specs.Places.{start_of}
use Rattle.line_stamps.specs.declared.{TheConstants.DRIFT_SILENCE, capture.CaptureByte.CaptureByte}
use Rattle.line_stamps.specs.declared.timing.Spacing.{Spacing, TheVariants.ByTime}
use Rattle.line_stamps.specs.declared.timing.{Spacing.TheVariants.ByRecord, Timing.Timing}
use Rattle.std.proofs.Common.{◌≡◌, ◌∙◌, ℕ, suc, ◌+◌, ◌-◌, ◌*◌, ◌<◌, ◌≤◌, ⊎_elim, inl, inr, List, []}
use Rattle.std.proofs.Common.{◌∷◌, Option, Some, None, sym, ap, arith, max, map, refl, subst, Bool}
use Rattle.std.proofs.Common.{true, false, add-one, ◌++◌, length, length-append, zero-add, add-zero}
use Rattle.std.proofs.{Common.zero, Math.Nat.mul-le-mul_right}
use Rattle.std.proofs.lemmas.Bool.{cases_lt, cases_Bool, cond-true, cond-false, lt-ltb, le-ltb}
use Rattle.{std.proofs.lemmas.List.length-replicate, yasir_ticks.proofs.SilenceLaws.bytes_in-silent}
use Rattle.yasir_ticks.specs.Ticks.{bytes_in, silent}
use Rattle.yasir_ticks.specs.declared.tick.Tick.{Tick, TheVariants.Silent, TheVariants.Byte}

-- the tick of a byte before which drift is taken up, and of one before which it isn't
pub tick-far : (n before time one : ℕ) → suc DRIFT_SILENCE < n
    → tick_placed_at n before time one ≡ max (rounded time one) (before + suc DRIFT_SILENCE)
tick-far n before time one h = cond-true _ _ _ (lt-ltb (suc DRIFT_SILENCE) n h)

pub tick-near : (n before time one : ℕ) → n ≤ suc DRIFT_SILENCE
    → tick_placed_at n before time one ≡ before + n
tick-near n before time one h = cond-false _ _ _ (le-ltb (suc DRIFT_SILENCE) n h)

module _ (one : ℕ) (some : 0 < one) (x y : PlacedByte)
    (is : y.spot.tick
    ≡ tick_placed_at (ticks_apart (time_between x y) one) x.spot.tick y.spot.time one) where
  abbrev steps : ℕ
  steps = ticks_apart (time_between x y) one

  far-is : 321 < steps → y.spot.tick ≡ max (rounded y.spot.time one) (x.spot.tick + 321)
  far-is far = is ∙ tick-far steps x.spot.tick y.spot.time one far

  near-is : steps ≤ 321 → y.spot.tick ≡ x.spot.tick + steps
  near-is near = is ∙ tick-near steps x.spot.tick y.spot.time one near

  pub keeps-edges : KeepsEdges one x y
  keeps-edges =
      let i = apart-inside one some (time_between x y) in
      let e = apart-end one some (time_between x y) in
      let s = apart-some one some (time_between x y) in
      ⊎_elim
      (λ (far : 321 < steps). let t = far-is far in
      let long : 9 * one ≤ 2 * time_between x y = e.0 (omega arith) in
      record {
        later = omega arith;
        inside = (λ h. absurd (omega arith), λ h. absurd (omega arith));
        end = (λ h. omega arith, λ h. omega arith);
      })
      (λ (near : steps ≤ 321). let t = near-is near in
      record {
        later = omega arith;
        inside = (
          λ h. let k = i.0 (omega arith) in omega arith,
          λ h. let k = i.1 (omega arith) in omega arith,
        );
        end = (
          λ h. let k = e.0 (omega arith) in omega arith,
          λ h. let k = e.1 (omega arith) in omega arith,
        );
      })
      (cases_lt 321 steps)

  pub keeps-time : KeepsTime one x y
  keeps-time = record {
    near = λ apart few. let t = near-is few in
        let same : y.spot.tick - x.spot.tick ≡ steps = omega arith in
        subst (λ (k : ℕ). WithinHalf one k (time_between x y)) (sym same) (
          apart-most one some (time_between x y) apart,
          apart-least one some (time_between x y) apart,
        );
    far = λ far. let t = far-is far in
        let most = rounded-most one some y.spot.time in
        let least = rounded-some one some y.spot.time in
        ⊎_elim
        (λ (ahead : rounded y.spot.time one < x.spot.tick + 321).
        let more : suc (rounded y.spot.time one) ≤ y.spot.tick = omega arith in
        let long : suc (rounded y.spot.time one) * one ≤ y.spot.tick * one =
        mul-le-mul_right one more in
        inr (omega arith, omega arith))
        (λ (behind : x.spot.tick + 321 ≤ rounded y.spot.time one).
        let there : y.spot.tick ≡ rounded y.spot.time one = omega arith in
        inl (subst (λ (k : ℕ). WithinHalf one k y.spot.time) (sym there) (most, omega arith)))
        (cases_lt (rounded y.spot.time one) (x.spot.tick + 321));
    long = λ far. let t = far-is far in omega arith;
  }

pub character-some : (t : Timing) → 0 < character t.rate
character-some t = let few : 10 ≤ t.rate.bits = t.rate.fewest_bits in omega arith

-- the tick of a byte after another one, by their times
pub spot-is : (t : Timing) → t.spacing ≡ ByTime → (before : Spot) (c : CaptureByte)
    → (spot_of t (Some before) c).tick
    ≡ tick_placed_at (ticks_apart ((spot_of t (Some before) c).time - before.time) (character t.rate))
    before.tick (spot_of t (Some before) c).time (character t.rate)
spot-is t by-time before c =
    ap (λ s. tick_placed_at (steps_apart s c.first ((spot_of t (Some before) c).time - before.time)
    (character t.rate)) before.tick (spot_of t (Some before) c).time (character t.rate)) by-time

module _ (t : Timing) (Related : PlacedByte → PlacedByte → Type 0)
    (step : (x : PlacedByte) (c : CaptureByte)
    → Related x (placed_at (spot_of t (Some x.spot) c) c)) where
  each-next : (x : PlacedByte) (cs : List CaptureByte)
      → AllNext Related (x ∷ placed_from t (Some x.spot) cs)
  each-next x [] = tt
  each-next x (c ∷ cs) = (step x c, each-next (placed_at (spot_of t (Some x.spot) c) c) cs)

  pub all-next : (cs : List CaptureByte) → AllNext Related (placed t cs)
  all-next [] = tt
  all-next (c ∷ cs) = each-next (placed_at (spot_of t None c) c) cs

module _ (t : Timing) (by-time : t.spacing ≡ ByTime) (cs : List CaptureByte) where
  pub edges-kept : AllNext (KeepsEdges (character t.rate)) (placed t cs)
  edges-kept =
      all-next t (KeepsEdges (character t.rate))
      (λ x c. keeps-edges (character t.rate) (character-some t) x
      (placed_at (spot_of t (Some x.spot) c) c) (spot-is t by-time x.spot c)) cs

  pub times-kept : AllNext (KeepsTime (character t.rate)) (placed t cs)
  times-kept =
      all-next t (KeepsTime (character t.rate))
      (λ x c. keeps-time (character t.rate) (character-some t) x
      (placed_at (spot_of t (Some x.spot) c) c) (spot-is t by-time x.spot c)) cs

-- Five ticks or more from one byte to the next stay five or more, even if drift is taken up.
tick-five : (n before time one : ℕ) → 5 ≤ n → before + 5 ≤ tick_placed_at n before time one
tick-five n before time one h =
    ⊎_elim (λ (far : 321 < n). rw (tick-far n before time one far) (omega arith))
    (λ (near : n ≤ 321). rw (tick-near n before time one near) (omega arith))
    (cases_lt 321 n)

-- the tick of a byte after another one, if records are taken for frames
module _ (t : Timing) (by-record : t.spacing ≡ ByRecord) (x : PlacedByte) (c : CaptureByte) where
  abbrev there : PlacedByte
  there = placed_at (spot_of t (Some x.spot) c) c

  abbrev tick-by : Bool → ℕ
  tick-by first =
      tick_placed_at (steps_apart ByRecord first (there.spot.time - x.spot.time) (character t.rate))
      x.spot.tick there.spot.time (character t.rate)

  tick-by-record : there.spot.tick ≡ tick-by c.first
  tick-by-record =
      ap (λ s. tick_placed_at (steps_apart s c.first (there.spot.time - x.spot.time) (character t.rate))
      x.spot.tick there.spot.time (character t.rate)) by-record

  begins : c.first ≡ true → x.spot.tick + 5 ≤ there.spot.tick
  begins first =
      let five : x.spot.tick + 5 ≤ tick-by true =
      tick-five (max (ticks_apart (there.spot.time - x.spot.time) (character t.rate)) 5) x.spot.tick
      there.spot.time (character t.rate) (omega arith) in
      rw tick-by-record (subst (λ (b : Bool). x.spot.tick + 5 ≤ tick-by b) (sym first) five)

  goes-on : c.first ≡ false → there.spot.tick ≡ suc x.spot.tick
  goes-on further =
      let start : there.spot.time ≡ x.spot.time + character t.rate = cond-false _ _ _ further in
      let some = character-some t in
      let gap : there.spot.time - x.spot.time ≡ character t.rate = omega arith in
      let step : ticks_apart (there.spot.time - x.spot.time) (character t.rate) ≡ 1 =
      ap (λ g. ticks_apart g (character t.rate)) gap
      ∙ apart-is (character t.rate) some (character t.rate) 1 (omega arith) (omega arith)
      (omega arith) in
      let near : tick-by false ≡ x.spot.tick + 1 =
      ap (λ n. tick_placed_at n x.spot.tick there.spot.time (character t.rate)) step
      ∙ tick-near 1 x.spot.tick there.spot.time (character t.rate) (omega arith) in
      tick-by-record ∙ (ap tick-by further ∙ (near ∙ add-one x.spot.tick))

  parted : ArePartedRecords x there
  parted = record {
    later = ⊎_elim (λ first. let h = begins first in omega arith)
        (λ further. let h = goes-on further in omega arith) (cases_Bool c.first);
    begins = λ first. let h = begins first in omega arith;
    goes_on = λ further. let h = goes-on further in omega arith;
  }

pub records-parted : (t : Timing) → t.spacing ≡ ByRecord → (cs : List CaptureByte)
    → AllNext ArePartedRecords (placed t cs)
records-parted t by-record cs = all-next t ArePartedRecords (parted t by-record) cs

-- The line has the bytes of the capture, from any tick and any byte on.
pub same-bytes : (t : Timing) (last : Option Spot) (n : ℕ) (cs : List CaptureByte)
    → bytes_in (ticks_from n (placed_from t last cs)) ≡ map (λ c. c.byte) cs
same-bytes t last n [] = refl
same-bytes t last n (c ∷ cs) =
    bytes_in-silent ((spot_of t last c).tick - n)
    (Byte c.byte
    ∷ ticks_from (suc (spot_of t last c).tick) (placed_from t (Some (spot_of t last c)) cs))
    ∙ ap (λ x. c.byte ∷ x)
    (same-bytes t (Some (spot_of t last c)) (suc (spot_of t last c).tick) cs)

steps-some : (s : Spacing) (first : Bool) (gap one : ℕ) → 0 < one
    → 0 < steps_apart s first gap one
steps-some ByTime first gap one some = apart-some one some gap
steps-some ByRecord true gap one some = omega arith
steps-some ByRecord false gap one some = apart-some one some gap

tick-behind : (n before time one : ℕ) → 0 < n → before < tick_placed_at n before time one
tick-behind n before time one h =
    ⊎_elim (λ (far : 321 < n). rw (tick-far n before time one far) (omega arith))
    (λ (near : n ≤ 321). rw (tick-near n before time one near) (omega arith))
    (cases_lt 321 n)

-- A byte comes after the one before it.
pub later : (t : Timing) (last : Option Spot) (c : CaptureByte)
    → next_tick last ≤ (spot_of t last c).tick
later t None c = omega arith
later t (Some before) c =
    let some = character-some t in
    let steps = steps-some t.spacing c.first (start_of t (Some before) c - before.time)
    (character t.rate) some in
    let behind = tick-behind (steps_apart t.spacing c.first
    (start_of t (Some before) c - before.time) (character t.rate)) before.tick
    (start_of t (Some before) c) (character t.rate) steps in
    omega arith

-- The line ends with the last byte.
pub line-length : (t : Timing) (last : Option Spot) (cs : List CaptureByte)
    → length (ticks_from (next_tick last) (placed_from t last cs)) + next_tick last
    ≡ next_tick (last_spot_from t last cs)
line-length t last [] = zero-add (next_tick last)
line-length t last (c ∷ cs) =
    let behind = later t last c in
    let rest = line-length t (Some (spot_of t last c)) cs in
    let parts : length (silent ((spot_of t last c).tick - next_tick last)
    ++ (Byte c.byte
    ∷ ticks_from (suc (spot_of t last c).tick) (placed_from t (Some (spot_of t last c)) cs)))
    ≡ (spot_of t last c).tick - next_tick last + suc (length
    (ticks_from (suc (spot_of t last c).tick) (placed_from t (Some (spot_of t last c)) cs))) =
    length-append (silent ((spot_of t last c).tick - next_tick last)) (Byte c.byte
    ∷ ticks_from (suc (spot_of t last c).tick) (placed_from t (Some (spot_of t last c)) cs))
    ∙ ap (λ n. n + suc (length
    (ticks_from (suc (spot_of t last c).tick) (placed_from t (Some (spot_of t last c)) cs))))
    (length-replicate ((spot_of t last c).tick - next_tick last) Silent) in
    let count : length (ticks_from (next_tick last) (placed_from t last (c ∷ cs))) + next_tick last
    ≡ suc (length (ticks_from (suc (spot_of t last c).tick)
    (placed_from t (Some (spot_of t last c)) cs)) + (spot_of t last c).tick) = omega arith in
    let same : suc (length (ticks_from (suc (spot_of t last c).tick)
    (placed_from t (Some (spot_of t last c)) cs)) + (spot_of t last c).tick)
    ≡ length (ticks_from (suc (spot_of t last c).tick)
    (placed_from t (Some (spot_of t last c)) cs)) + suc (spot_of t last c).tick = omega arith in
    count ∙ (same ∙ rest)

-- the bytes after silence
bytes-behind : (n k : ℕ) (l : List Tick) → bytes_from n (silent k ++ l) ≡ bytes_from (n + k) l
bytes-behind n zero l = ap (λ i. bytes_from i l) (sym (add-zero n))
bytes-behind n (suc k) l =
    let e : suc n + k ≡ n + suc k = omega arith in
    bytes-behind (suc n) k l ∙ ap (λ i. bytes_from i l) e

-- Each byte is in its tick of the line.
pub in-their-ticks : (t : Timing) (last : Option Spot) (cs : List CaptureByte)
    → bytes_from (next_tick last) (ticks_from (next_tick last) (placed_from t last cs))
    ≡ map at_tick (placed_from t last cs)
in-their-ticks t last [] = refl
in-their-ticks t last (c ∷ cs) =
    let behind = later t last c in
    let e : next_tick last + ((spot_of t last c).tick - next_tick last) ≡ (spot_of t last c).tick =
    omega arith in
    bytes-behind (next_tick last) ((spot_of t last c).tick - next_tick last) (Byte c.byte
    ∷ ticks_from (suc (spot_of t last c).tick) (placed_from t (Some (spot_of t last c)) cs))
    ∙ (ap (λ n. bytes_from n (Byte c.byte
    ∷ ticks_from (suc (spot_of t last c).tick) (placed_from t (Some (spot_of t last c)) cs))) e
    ∙ ap (λ xs. at_tick (placed_at (spot_of t last c) c) ∷ xs)
    (in-their-ticks t (Some (spot_of t last c)) cs))
