-- How the ticks of a line keep to the times of a capture.
use Rattle.std.specs.Prelude.{◌≡◌, ◌↔◌, ◌⊎◌, ℕ, suc, ◌+◌, ◌-◌, ◌*◌, ◌<◌, ◌≤◌, List, [], ◌∷◌}
use Rattle.std.specs.Prelude.{true, false}
use Rattle.yasir_ticks.specs.declared.TheConstants.{T3_5_TICKS}
use Rattle.line_stamps.specs.declared.TheConstants.{DRIFT_SILENCE}
use Rattle.line_stamps.specs.Parts.{ticks_apart}
use Rattle.line_stamps.specs.Places.{PlacedByte}

-- Holds if each element is related to the one after it.
abbrev pub AllNext : {A : Type 0} → (A → A → Type 0) → List A → Type 0
AllNext Related [] = Unit {0}
AllNext Related (x ∷ []) = Unit {0}
AllNext Related (x ∷ y ∷ more) = Related x y × AllNext Related (y ∷ more)

-- the time from the start of one byte to that of the next, or 0 if the next one starts before it
abbrev pub time_between : PlacedByte → PlacedByte → ℕ
time_between x y = y.spot.time - x.spot.time

-- the silent ticks between two bytes
abbrev pub silent_ticks : PlacedByte → PlacedByte → ℕ
silent_ticks x y = y.spot.tick - suc x.spot.tick

-- Holds if y comes after x, with four silent ticks or more between them if y is the first byte of a
-- record, and with none otherwise.
pub record ArePartedRecords (x y : PlacedByte) : Type 0 where
  pub later : x.spot.tick < y.spot.tick
  pub begins : y.first ≡ true → T3_5_TICKS ≤ silent_ticks x y
  pub goes_on : y.first ≡ false → silent_ticks x y ≡ 0

module _ (character : ℕ) where
  -- the silence between two bytes: the time from the end of one to the start of the next, or 0 if
  -- they overlap
  abbrev pub silence : PlacedByte → PlacedByte → ℕ
  silence x y = y.spot.time - (x.spot.time + character)

  -- Holds if y comes after x, with at most one silent tick between them exactly if the silence is
  -- at most 1.5 characters, and with four or more exactly if it is at least 3.5.
  pub record KeepsEdges (x y : PlacedByte) : Type 0 where
    pub later : x.spot.tick < y.spot.tick
    pub inside : (silent_ticks x y ≤ 1) ↔ (2 * silence x y ≤ 3 * character)
    pub end : (4 ≤ silent_ticks x y) ↔ (7 * character ≤ 2 * silence x y)

  -- whether a number of ticks is at most half a tick more or less than a time
  abbrev pub WithinHalf : ℕ → ℕ → Type 0
  WithinHalf ticks time =
      (2 * (ticks * character) ≤ 2 * time + character)
      × (2 * time ≤ 2 * (ticks * character) + character)

  -- Holds if the ticks from one byte to the next keep to the time between the two: they are at most
  -- half a tick off, unless the two bytes overlap or drift is taken up. Drift is taken up only in
  -- silences of more than 320 ticks, of which at least 320 remain. There the tick of the second
  -- byte is at most half a tick off from its time, or exactly 320 silent ticks remain and the line
  -- is still ahead.
  pub record KeepsTime (x y : PlacedByte) : Type 0 where
    pub near : character ≤ 2 * time_between x y
        → ticks_apart (time_between x y) character ≤ suc DRIFT_SILENCE
        → WithinHalf (y.spot.tick - x.spot.tick) (time_between x y)
    pub long : suc DRIFT_SILENCE < ticks_apart (time_between x y) character
        → DRIFT_SILENCE ≤ silent_ticks x y
    pub far : suc DRIFT_SILENCE < ticks_apart (time_between x y) character
        → WithinHalf y.spot.tick y.spot.time
        ⊎ (silent_ticks x y ≡ DRIFT_SILENCE) × (y.spot.time < y.spot.tick * character)
