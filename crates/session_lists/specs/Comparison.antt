-- The frames that a device reads, compared with those that it should read.
use Rattle.std.specs.Prelude.{◌≡◌, ℕ, suc, ◌+◌, nat_le, ◌&&◌, Bool, List, [], ◌∷◌, length}
use Rattle.std.specs.Prelude.{bytes_eq, Option, Some, None, IfSome, option_map, slice_get}
use Rattle.std.specs.Prelude.{if◌then◌else◌}
use Rattle.yasir_ticks.specs.declared.tick.Tick.{Tick}
use Rattle.device_model.specs.Frames.{FrameRead}
use Rattle.device_model.specs.declared.device.Device.{Ghosts as Device}
use Rattle.session_lists.specs.declared.comparison.Comparison.{Comparison}
use Rattle.session_lists.specs.declared.comparison.Difference.{Difference}
use Rattle.session_lists.specs.declared.lateness.Lateness.{Lateness}

-- whether a frame that was read has the bytes of the one that should be, and starts from `least` to
-- `most` ticks later than that
abbrev pub is_same_read : Lateness → FrameRead → FrameRead → Bool
is_same_read late f g =
    nat_le (f.start + late.least) g.start && nat_le g.start (f.start + late.most)
    && bytes_eq f.frame g.frame

-- The first place, counted from 0, at which the frames that should be read and those that were
-- differ: the frame there isn't the one that should be, or only one of the lists has a frame there.
-- `None` if there is no such place.
abbrev pub first_difference : Lateness → List FrameRead → List FrameRead → Option ℕ
first_difference late [] [] = None
first_difference late [] (g ∷ y) = Some 0
first_difference late (f ∷ x) [] = Some 0
first_difference late (f ∷ x) (g ∷ y) =
    if is_same_read late f g then option_map suc (first_difference late x y) else Some 0

-- the difference at this place between the frames that should be read and those that were: at this
-- place each list has a frame, or none
abbrev pub difference_at : List FrameRead → List FrameRead → ℕ → Difference
difference_at expected reads place = record {
  place = place;
  expected = slice_get expected place;
  found = slice_get reads place;
}

-- The first difference between the frames that should be read and those that were. `None` if the
-- lists don't differ.
abbrev pub difference_of : Lateness → List FrameRead → List FrameRead → Option Difference
difference_of late expected reads =
    option_map (difference_at expected reads) (first_difference late expected reads)

-- The place, counted from 0, of the first frame that was read and isn't the one expected there.
-- `None` if there is no such frame. Expected frames that haven't been read yet don't count.
abbrev pub first_unexpected : Lateness → List FrameRead → List FrameRead → Option ℕ
first_unexpected late [] [] = None
first_unexpected late [] (g ∷ y) = Some 0
first_unexpected late (f ∷ x) [] = None
first_unexpected late (f ∷ x) (g ∷ y) =
    if is_same_read late f g then option_map suc (first_unexpected late x y) else Some 0

-- What a comparison holds of the frames that were read: how many there are, and the first one that
-- isn't expected, with its place. Nothing else is kept of them.
pub record Found (late : Lateness) (value : Comparison) (expected reads : List FrameRead) :
    Type 0 where
  pub count : value.read ≡ length reads
  pub place : option_map (λ u. u.place) value.unexpected ≡ first_unexpected late expected reads
  pub frame : IfSome value.unexpected (λ u. slice_get reads u.place ≡ Some u.frame)

-- Holds if the device has heard this line, and what it has read was compared with the frames that
-- should be read.
pub record Compares {V : Type 0} (device : Device V) (value : V) (comparison : Comparison)
    (late : Lateness) (expected : List FrameRead) (line : List Tick) : Type 0 where
  pub hears : device.stands value line
  pub found : Found late comparison expected (device.reads line)
