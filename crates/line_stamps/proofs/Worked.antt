-- Worked rows of the definitions: at 1,000 baud and 10 bits a character is 10 ms.
use Rattle.line_stamps.specs.{Parts.ticks_apart, Places.placed}
use Rattle.line_stamps.specs.declared.capture.{CaptureByte.CaptureByte, Way.TheVariants.A}
use Rattle.line_stamps.specs.declared.{rate.Rate.Rate, timing.Spacing.Spacing}
use Rattle.line_stamps.specs.declared.timing.Spacing.TheVariants.{ByTime, ByRecord}
use Rattle.std.proofs.Common.{◌≡◌, ℕ, ◌*◌, List, [], ◌∷◌, true, refl, lit≤, map, false}

abbrev slow : Rate
slow = record {
  baud = 1000;
  bits = 10;
  slowest = lit≤ tt;
  fastest = lit≤ tt;
  fewest_bits = lit≤ tt;
  most_bits = lit≤ tt;
}

-- the first byte of a record, at a time in microseconds
abbrev begun : ℕ → CaptureByte
begun time = record { way = A; start = 1000 * time; first = true; byte = 7 }

abbrev further : CaptureByte
further = record { way = A; start = 0; first = false; byte = 8 }

abbrev ticks : Spacing → ℕ → List CaptureByte → List ℕ
ticks spacing origin cs =
    map (λ x. x.spot.tick)
    (placed (record { rate = slow; spacing = spacing; origin = 1000 * origin }) cs)

-- The bytes of a record are in ticks that follow each other. So is a byte that starts less than
-- half a character early.
rows-together : ticks ByTime 0 (begun 0 ∷ further ∷ further ∷ begun 29900 ∷ begun 35000 ∷ [])
    ≡ 0 ∷ 1 ∷ 2 ∷ 3 ∷ 4 ∷ []
rows-together = refl

-- A silence of 1.5 characters is one tick, and a longer one is two. A silence of 3.5 characters is
-- four ticks, and a shorter one is three.
rows-edges : map (λ gap. ticks_apart gap 10000)
    (0 ∷ 4999 ∷ 5000 ∷ 14999 ∷ 15000 ∷ 25000 ∷ 25001 ∷ 34999 ∷ 35000 ∷ 44999 ∷ 45000 ∷ [])
    ≡ 1 ∷ 1 ∷ 1 ∷ 1 ∷ 2 ∷ 2 ∷ 3 ∷ 3 ∷ 4 ∷ 4 ∷ 5 ∷ []
rows-edges = refl

-- The first byte comes 40 ms after that of the other way.
rows-origin : ticks ByTime 1000 (begun 41000 ∷ further ∷ []) ≡ 4 ∷ 5 ∷ []
rows-origin = refl

-- Each gap is rounded on its own: two of 1.4 characters are one tick each. The next silence of more
-- than 320 ticks takes the drift up.
rows-drift : ticks ByTime 0 (begun 0 ∷ begun 14000 ∷ begun 28000 ∷ begun 3268000 ∷ [])
    ≡ 0 ∷ 1 ∷ 2 ∷ 327 ∷ []
rows-drift = refl

-- A silence of 320 ticks takes no drift up.
rows-no-drift : ticks ByTime 0 (begun 0 ∷ begun 14000 ∷ begun 28000 ∷ begun 3238000 ∷ [])
    ≡ 0 ∷ 1 ∷ 2 ∷ 323 ∷ []
rows-no-drift = refl

-- If ticks are ahead of times, a long silence becomes shorter, but not shorter than 320 ticks.
rows-ahead : ticks ByTime 0
    (begun 0 ∷ begun 16000 ∷ begun 32000 ∷ begun 48000 ∷ begun 64000 ∷ begun 80000
    ∷ begun 3300000 ∷ [])
    ≡ 0 ∷ 2 ∷ 4 ∷ 6 ∷ 8 ∷ 10 ∷ 331 ∷ []
rows-ahead = refl

-- Each record is taken for a frame, though the second one begins before the first could have ended.
rows-records : ticks ByRecord 0
    (begun 0 ∷ further ∷ further ∷ begun 12000 ∷ further ∷ begun 92000 ∷ [])
    ≡ 0 ∷ 1 ∷ 2 ∷ 7 ∷ 8 ∷ 15 ∷ []
rows-records = refl
