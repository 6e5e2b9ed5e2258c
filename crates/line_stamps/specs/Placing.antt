-- What a placer returns, and which bytes it has taken.
use Rattle.std.specs.Prelude.{◌≡◌, ℕ, ◌+◌, ◌-◌, ◌*◌, ◌^◌, min, nat_lt, nat_le, if◌then◌else◌, Bool}
use Rattle.std.specs.Prelude.{true}
use Rattle.std.specs.Prelude.{◌&&◌, ◌||◌, false, List, [], ◌∷◌, ◌++◌, Option, Some, None, Result}
use Rattle.std.specs.Prelude.{Ok, Err}
use Rattle.line_stamps.specs.declared.TheConstants.{TIME_LIMIT}
use Rattle.line_stamps.specs.declared.capture.CaptureByte.{CaptureByte}
use Rattle.line_stamps.specs.declared.placer.Last.{Last}
use Rattle.line_stamps.specs.declared.placer.Placer.{Placer}
use Rattle.line_stamps.specs.declared.placer.Unplaced.{Unplaced}
use Rattle.line_stamps.specs.declared.placer.Unplaced.TheVariants.{Early, Overlap, Late}
use Rattle.line_stamps.specs.declared.timing.Spacing.{Spacing}
use Rattle.line_stamps.specs.declared.timing.Spacing.TheVariants.{ByTime, ByRecord}
use Rattle.line_stamps.specs.declared.timing.Timing.{Timing}
use Rattle.line_stamps.specs.Parts.{character}
use Rattle.line_stamps.specs.Places.{Spot, start_of, spot_of, next_tick, last_spot}

-- whether a byte starts at its time stamp: it is the first byte of all, or of its record
abbrev pub is_stamped : Option Spot → CaptureByte → Bool
is_stamped None c = true
is_stamped (Some before) c = c.first

-- whether a byte starts at a time stamp that is before the origin
abbrev pub is_early : Timing → Option Spot → CaptureByte → Bool
is_early t last c = is_stamped last c && nat_lt c.start t.origin

-- whether a byte has a time or a tick at the limit of both, or after it
abbrev pub is_late : Spot → Bool
is_late spot = nat_le TIME_LIMIT spot.time || nat_le TIME_LIMIT spot.tick

-- Whether a byte that starts at this time starts less than half a character after the byte before
-- it, so that no tick is left for it. Nothing overlaps if each record is taken for a frame.
abbrev pub overlaps_at : Spacing → Option Spot → ℕ → ℕ → Bool
overlaps_at ByRecord last time length_of_one = false
overlaps_at ByTime None time length_of_one = false
overlaps_at ByTime (Some before) time length_of_one =
    nat_lt (2 * (time - before.time)) length_of_one

-- whether a byte overlaps the byte before it, given where that one is, if there is one
abbrev pub overlaps : Timing → Option Spot → CaptureByte → Bool
overlaps t last c = overlaps_at t.spacing last (start_of t last c) (character t.rate)

-- how many bytes overlap the one before them
abbrev pub overlaps_from : Timing → Option Spot → List CaptureByte → ℕ
overlaps_from t last [] = 0
overlaps_from t last (c ∷ cs) =
    (if overlaps t last c then 1 else 0) + overlaps_from t (Some (spot_of t last c)) cs

-- how many bytes of one way of a capture overlap the one before them
abbrev pub overlap_count : Timing → List CaptureByte → ℕ
overlap_count t cs = overlaps_from t None cs

-- how many silent ticks come before a byte
abbrev pub silence_before : Option Spot → Spot → ℕ
silence_before last spot = spot.tick - next_tick last

-- the silent ticks before a byte, or why it isn't placed
abbrev pub answer_at : Timing → Option Spot → CaptureByte → Result ℕ Unplaced
answer_at t last c =
    if is_early t last c then Err Early
    else if is_late (spot_of t last c) then Err Late
    else if overlaps t last c then Err Overlap
    else Ok (silence_before last (spot_of t last c))

-- Holds if none of these bytes is early, and none overlaps the one before it, given where the byte
-- before them is, if there is one.
abbrev pub NoneRefused : Timing → Option Spot → List CaptureByte → Type 0
NoneRefused t last [] = Unit {0}
NoneRefused t last (c ∷ cs) =
    (is_early t last c ≡ false)
    × (overlaps t last c ≡ false)
    × NoneRefused t (Some (spot_of t last c)) cs

-- where the byte is that a placer has taken last, and how its bytes are placed
abbrev pub spot_at : Last → Spot
spot_at last = record { time = last.time; tick = last.tick }

abbrev pub spot_if : Option Last → Option Spot
spot_if None = None
spot_if (Some last) = Some (spot_at last)

abbrev pub timing_of : Placer → Timing
timing_of placer = placer.timing

-- Holds if a placer has taken these bytes: it knows where the last one is, and counts those that
-- overlap, up to 2^64 - 1.
pub record PlacingHasTaken (placer : Placer) (cs : List CaptureByte) : Type 0 where
  pub stands : spot_if placer.last ≡ last_spot placer.timing cs
  pub counted : placer.overlaps ≡ min (overlap_count placer.timing cs) (2 ^ 64 - 1)

-- Holds if a placer has taken one more byte, whatever bytes it had taken before.
abbrev pub HasTakenMore : Placer → Placer → CaptureByte → Type 0
HasTakenMore old new c =
    (new.timing ≡ old.timing)
    × ((cs : List CaptureByte) → PlacingHasTaken old cs → PlacingHasTaken new (cs ++ c ∷ []))

-- What `place` leaves of a placer, by its result: a byte that overlaps is taken, though it isn't
-- placed, and one that is early or late changes nothing.
abbrev pub Leaves : Placer → Placer → CaptureByte → Result ℕ Unplaced → Type 0
Leaves old new c (Ok silence) = HasTakenMore old new c
Leaves old new c (Err Overlap) = HasTakenMore old new c
Leaves old new c (Err Early) = new ≡ old
Leaves old new c (Err Late) = new ≡ old
