-- Ticks as times of a capture.
use Rattle.std.specs.Prelude.{◌≡◌, ℕ, suc, ◌+◌, ◌*◌, true, false, List, [], ◌∷◌, ◌++◌, Option, Some}
use Rattle.std.specs.Prelude.{None}
use Rattle.yasir_ticks.specs.Ticks.{silent}
use Rattle.yasir_ticks.specs.declared.tick.Tick.{Tick}
use Rattle.yasir_ticks.specs.declared.tick.Tick.TheVariants.{Silent, Byte}
use Rattle.line_stamps.specs.declared.capture.CaptureByte.{CaptureByte}
use Rattle.line_stamps.specs.declared.rate.Rate.{Rate}
use Rattle.line_stamps.specs.declared.timing.Spacing.TheVariants.{ByTime}
use Rattle.line_stamps.specs.declared.timing.Timing.{Timing}
use Rattle.line_stamps.specs.Places.{PlacedByte, line_of_places}
use Rattle.line_stamps.specs.Parts.{character, rounded}

-- The start of a tick, in nanoseconds since tick 0, in a capture that counts time in units of this
-- many nanoseconds: the nearest whole number of units, with a half rounded up.
abbrev pub tick_start : Rate → ℕ → ℕ → ℕ
tick_start rate unit tick = unit * rounded (tick * character rate) (rate.baud * unit)

-- the timing by which tick m of the line that was given becomes tick 0, if tick 0 of that line has
-- the time `epoch`
abbrev pub taken_from : Rate → ℕ → ℕ → ℕ → Timing
taken_from rate unit epoch m = record {
  rate = rate;
  spacing = ByTime;
  origin = epoch + tick_start rate unit m;
}

-- Holds if a capture is taken as this line, apart from the silence after its last byte.
abbrev pub IsTakenAs : Timing → List CaptureByte → List Tick → Type 0
IsTakenAs t cs line = (n : ℕ) × (line ≡ line_of_places t cs ++ silent n)

-- a byte of a line, with its tick
pub record ByteAt : Type 0 where
  pub tick : ℕ
  pub byte : ℕ

-- a byte that is placed on a line, with its tick
abbrev pub at_tick : PlacedByte → ByteAt
at_tick x = record { tick = x.spot.tick; byte = x.byte }

-- the bytes of a line whose first tick is tick n, each with its tick
abbrev pub bytes_from : ℕ → List Tick → List ByteAt
bytes_from n [] = []
bytes_from n (Silent ∷ l) = bytes_from (suc n) l
bytes_from n (Byte b ∷ l) = record { tick = n; byte = b } ∷ bytes_from (suc n) l

module _ (rate : Rate) (unit epoch : ℕ) where
  -- Holds if a byte of a capture tells the tick of this byte of a line, with `before` the tick of
  -- the byte before it, if there is one. The first byte of all and the first byte of each record
  -- have a time stamp, which is the start of their tick, counted from `epoch`. Each other byte is
  -- in the tick after `before`.
  abbrev pub StampsGive : Option ℕ → ByteAt → CaptureByte → Type 0
  StampsGive None x c = c.start ≡ epoch + tick_start rate unit x.tick
  StampsGive (Some before) x c =
      (c.first ≡ true → c.start ≡ epoch + tick_start rate unit x.tick)
      × (c.first ≡ false → x.tick ≡ suc before)

  -- Holds if these bytes of a capture give these bytes of a line, in the same order and in whatever
  -- records.
  abbrev pub AreStampsGiven : Option ℕ → List ByteAt → List CaptureByte → Type 0
  AreStampsGiven before [] [] = Unit {0}
  AreStampsGiven before [] (c ∷ cs) = ⊥
  AreStampsGiven before (x ∷ xs) [] = ⊥
  AreStampsGiven before (x ∷ xs) (c ∷ cs) =
      (c.byte ≡ x.byte) × StampsGive before x c × AreStampsGiven (Some x.tick) xs cs
