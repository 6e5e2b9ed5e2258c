-- Where the bytes of one way of a capture are on a line.
use Rattle.std.specs.Prelude.{ℕ, suc, ◌+◌, ◌-◌, ◌*◌, nat_lt, if◌then◌else◌, max, Bool, true, false}
use Rattle.std.specs.Prelude.{List, [], ◌∷◌, ◌++◌, Option, Some, None}
use Rattle.yasir_ticks.specs.Ticks.{silent}
use Rattle.yasir_ticks.specs.declared.TheConstants.{T3_5_TICKS}
use Rattle.yasir_ticks.specs.declared.tick.Tick.{Tick}
use Rattle.yasir_ticks.specs.declared.tick.Tick.TheVariants.{Byte}
use Rattle.line_stamps.specs.declared.TheConstants.{DRIFT_SILENCE}
use Rattle.line_stamps.specs.declared.capture.CaptureByte.{CaptureByte}
use Rattle.line_stamps.specs.declared.timing.Spacing.{Spacing}
use Rattle.line_stamps.specs.declared.timing.Spacing.TheVariants.{ByTime, ByRecord}
use Rattle.line_stamps.specs.declared.timing.Timing.{Timing}
use Rattle.line_stamps.specs.Parts.{character, rounded, ticks_apart}

-- where a byte is on a line: its start, in parts since the origin, and its tick
pub record Spot : Type 0 where
  pub time : ℕ
  pub tick : ℕ

-- the time stamp of a byte, in parts since the origin
abbrev pub stamp : Timing → CaptureByte → ℕ
stamp t c = (c.start - t.origin) * t.rate.baud

-- The start of a byte, in parts since the origin. The first byte of all and the first byte of each
-- record start at their time stamp, and each other byte a character after the one before it.
abbrev pub start_of : Timing → Option Spot → CaptureByte → ℕ
start_of t None c = stamp t c
start_of t (Some before) c =
    if c.first then stamp t c else before.time + character t.rate

-- How many ticks there are from one byte to the next, with this time between their starts, if there
-- is no drift. A record that is taken for a frame has at least four silent ticks before it.
abbrev pub steps_apart : Spacing → Bool → ℕ → ℕ → ℕ
steps_apart ByTime first gap length_of_one = ticks_apart gap length_of_one
steps_apart ByRecord true gap length_of_one = max (ticks_apart gap length_of_one) (suc T3_5_TICKS)
steps_apart ByRecord false gap length_of_one = ticks_apart gap length_of_one

-- The tick of a byte that starts at this time, n ticks after the one before it if there is no
-- drift. Drift is taken up in silences of more than 320 ticks: there the byte is in the tick that
-- is nearest to its time, but after at least 320 silent ticks.
abbrev pub tick_placed_at : ℕ → ℕ → ℕ → ℕ → ℕ
tick_placed_at n before time length_of_one =
    if nat_lt (suc DRIFT_SILENCE) n
    then max (rounded time length_of_one) (before + suc DRIFT_SILENCE)
    else before + n

-- the tick of a byte that starts at this time, given where the byte before it is, if there is one
abbrev pub tick_after : Timing → Option Spot → Bool → ℕ → ℕ
tick_after t None first time = rounded time (character t.rate)
tick_after t (Some before) first time =
    tick_placed_at (steps_apart t.spacing first (time - before.time) (character t.rate)) before.tick time
    (character t.rate)

-- where a byte is, given where the byte before it is, if there is one
abbrev pub spot_of : Timing → Option Spot → CaptureByte → Spot
spot_of t last c = record {
  time = start_of t last c;
  tick = tick_after t last c.first (start_of t last c);
}

-- the tick after a byte, or tick 0 if there is none
abbrev pub next_tick : Option Spot → ℕ
next_tick None = 0
next_tick (Some spot) = suc spot.tick

-- a byte, where it is on a line, and whether it is the first one of its record
pub record PlacedByte : Type 0 where
  pub spot : Spot
  pub byte : ℕ
  pub first : Bool

-- a byte of a capture, placed here
abbrev pub placed_at : Spot → CaptureByte → PlacedByte
placed_at spot c = record { spot = spot; byte = c.byte; first = c.first }

-- where these bytes are, given where the byte before them is, if there is one
abbrev pub placed_from : Timing → Option Spot → List CaptureByte → List PlacedByte
placed_from t last [] = []
placed_from t last (c ∷ cs) =
    placed_at (spot_of t last c) c ∷ placed_from t (Some (spot_of t last c)) cs

-- where the bytes of one way of a capture are
abbrev pub placed : Timing → List CaptureByte → List PlacedByte
placed t cs = placed_from t None cs

-- the ticks from tick n to the last of these bytes
abbrev pub ticks_from : ℕ → List PlacedByte → List Tick
ticks_from n [] = []
ticks_from n (x ∷ xs) = silent (x.spot.tick - n) ++ (Byte x.byte ∷ ticks_from (suc x.spot.tick) xs)

-- the line that one way of a capture represents, up to its last byte
abbrev pub line_of_places : Timing → List CaptureByte → List Tick
line_of_places t cs = ticks_from 0 (placed t cs)

-- where the last of these bytes is, or the byte before them if there are none
abbrev pub last_spot_from : Timing → Option Spot → List CaptureByte → Option Spot
last_spot_from t last [] = last
last_spot_from t last (c ∷ cs) = last_spot_from t (Some (spot_of t last c)) cs

-- where the last of these bytes is, if there is one
abbrev pub last_spot : Timing → List CaptureByte → Option Spot
last_spot t cs = last_spot_from t None cs
