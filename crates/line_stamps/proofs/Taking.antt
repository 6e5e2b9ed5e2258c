-- One more byte: where it is, and what it adds to the line.
use Rattle.line_stamps.specs.{Parts.character, Places.Spot, Places.spot_of, Places.next_tick}
use Rattle.line_stamps.specs.Places.{placed_from, ticks_from, line_of_places, last_spot_from, last_spot}
use Rattle.line_stamps.specs.{Places.start_of, Places.tick_after, Placing.silence_before}
use Rattle.line_stamps.specs.Placing.{overlaps_at, overlaps, overlaps_from, overlap_count}
use Rattle.line_stamps.specs.declared.{capture.CaptureByte.CaptureByte, timing.Timing.Timing}
use Rattle.std.proofs.Common.{◌≡◌, ◌∙◌, ℕ, suc, ◌-◌, List, [], ◌∷◌, ◌++◌, refl, ap, sym}
use Rattle.std.proofs.Common.{append_assoc, ◌+◌, ◌^◌, min, Bool, true, false, arith}
use Rattle.std.specs.Prelude.{Option, Some, None, if◌then◌else◌}
use Rattle.yasir_ticks.specs.{Ticks.silent, declared.tick.Tick.TheVariants.Byte}

-- what a placer that has taken these bytes knows of them
abbrev pub HasStood : Timing → Option Spot → ℕ → List CaptureByte → Type 0
HasStood t last n cs = (last ≡ last_spot t cs) × (n ≡ min (overlap_count t cs) (2 ^ 64 - 1))

module _ (t : Timing) where
  pub last-more : (last : Option Spot) (cs : List CaptureByte) (c : CaptureByte)
      → last_spot_from t last (cs ++ c ∷ []) ≡ Some (spot_of t (last_spot_from t last cs) c)
  last-more last [] c = refl
  last-more last (d ∷ cs) c = last-more (Some (spot_of t last d)) cs c

  pub line-more : (last : Option Spot) (cs : List CaptureByte) (c : CaptureByte)
      → ticks_from (next_tick last) (placed_from t last (cs ++ c ∷ []))
      ≡ ticks_from (next_tick last) (placed_from t last cs)
      ++ (silent
      (silence_before (last_spot_from t last cs) (spot_of t (last_spot_from t last cs) c))
      ++ Byte c.byte ∷ [])
  line-more last [] c = refl
  line-more last (d ∷ cs) c =
      ap (λ x. silent ((spot_of t last d).tick - next_tick last) ++ (Byte d.byte ∷ x))
      (line-more (Some (spot_of t last d)) cs c)
      ∙ sym (append_assoc (silent ((spot_of t last d).tick - next_tick last))
      (Byte d.byte
      ∷ ticks_from (suc (spot_of t last d).tick) (placed_from t (Some (spot_of t last d)) cs))
      (silent (silence_before (last_spot_from t (Some (spot_of t last d)) cs)
      (spot_of t (last_spot_from t (Some (spot_of t last d)) cs) c)) ++ Byte c.byte ∷ []))

  pub count-more : (last : Option Spot) (cs : List CaptureByte) (c : CaptureByte)
      → overlaps_from t last (cs ++ c ∷ [])
      ≡ overlaps_from t last cs + (if overlaps t (last_spot_from t last cs) c then 1 else 0)
  count-more last [] c = omega arith
  count-more last (d ∷ cs) c =
      let rest = count-more (Some (spot_of t last d)) cs c in omega arith

  module _ (last : Option Spot) (c : CaptureByte) (time tick : ℕ) (start : time ≡ start_of t last c)
      (there : tick ≡ tick_after t last c.first time) where
    stands : let spot : Spot = record { time = time; tick = tick } in spot ≡ spot_of t last c
    stands = cc

    taken : (cs : List CaptureByte) → last ≡ last_spot t cs
        → Some (let spot : Spot = record { time = time; tick = tick } in spot)
        ≡ last_spot t (cs ++ c ∷ [])
    taken cs had =
        ap Some stands
        ∙ (ap (λ x. Some (spot_of t x c)) had ∙ sym (last-more None cs c))

    -- the count of overlaps, with one more byte that overlaps the one before it or doesn't
    module _ (b : Bool) (told : b ≡ overlaps_at t.spacing last time (character t.rate))
        (cs : List CaptureByte) (had : last ≡ last_spot t cs) where
      overlap-is : overlaps t (last_spot t cs) c ≡ b
      overlap-is =
          ap (λ x. overlaps t x c) (sym had)
          ∙ (ap (λ n. overlaps_at t.spacing last n (character t.rate)) (sym start) ∙ sym told)

      count-is : overlap_count t (cs ++ c ∷ []) ≡ overlap_count t cs + (if b then 1 else 0)
      count-is =
          count-more None cs c ∙ ap (λ v. overlap_count t cs + (if v then 1 else 0)) overlap-is

    pub taken-apart : overlaps_at t.spacing last time (character t.rate) ≡ false → (n : ℕ)
        → (cs : List CaptureByte) → last ≡ last_spot t cs
        → n ≡ min (overlap_count t cs) (2 ^ 64 - 1)
        → HasStood t (Some (let spot : Spot = record { time = time; tick = tick } in spot)) n
        (cs ++ c ∷ [])
    taken-apart apart n cs had counted =
        let count = count-is false (sym apart) cs had in (taken cs had, omega arith)

    pub taken-over : overlaps_at t.spacing last time (character t.rate) ≡ true → (n m : ℕ)
        → m ≡ min (n + 1) (2 ^ 64 - 1) → (cs : List CaptureByte) → last ≡ last_spot t cs
        → n ≡ min (overlap_count t cs) (2 ^ 64 - 1)
        → HasStood t (Some (let spot : Spot = record { time = time; tick = tick } in spot)) m
        (cs ++ c ∷ [])
    taken-over over n m more cs had counted =
        let count = count-is true (sym over) cs had in (taken cs had, omega arith)

    pub silence-line : (n m : ℕ) → m ≡ next_tick last → n ≡ tick - m
        → (cs : List CaptureByte) → last ≡ last_spot t cs
        → line_of_places t (cs ++ c ∷ []) ≡ line_of_places t cs ++ (silent n ++ Byte c.byte ∷ [])
    silence-line n m next silence cs had =
        let before : silence_before (last_spot t cs) (spot_of t (last_spot t cs) c) ≡ n =
        ap (λ x. silence_before x (spot_of t x c)) (sym had)
        ∙ (ap (λ x. silence_before last x) (sym stands)
        ∙ (ap (λ x. tick - x) (sym next) ∙ sym silence)) in
        line-more None cs c ∙ ap (λ k. line_of_places t cs ++ (silent k ++ Byte c.byte ∷ [])) before
