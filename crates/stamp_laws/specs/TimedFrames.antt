-- What is read by a Modbus RTU device that measures silence by time. In Modbus over Serial Line
-- V1.02 a silence of at least 3.5 characters ends a frame, and a silence of at most 1.5 may be
-- inside one. If a silence between two ends is longer than 1.5 characters, the bytes between these
-- ends aren't a frame.
--
-- These definitions use only the time and the value of a byte that is placed on a line.
use Rattle.std.specs.Prelude.{ℕ, ◌*◌, nat_le, nat_lt, ◌&&◌, not, Bool, List, filter}
use Rattle.rtu_frame.specs.Frame.{is_frame}
use Rattle.line_stamps.specs.Places.{PlacedByte}
use Rattle.line_stamps.specs.Clock.{silence}
use Rattle.stamp_laws.specs.Cuts.{cut_where, any_next, bytes_of_cut}

module _ (character : ℕ) where
  -- whether at least 3.5 characters of silence are between two bytes
  abbrev pub are_parted : PlacedByte → PlacedByte → Bool
  are_parted x y = nat_le (7 * character) (2 * silence character x y)

  -- whether more than 1.5 characters of silence are between two bytes
  abbrev pub are_apart : PlacedByte → PlacedByte → Bool
  are_apart x y = nat_lt (3 * character) (2 * silence character x y)

  -- whether these bytes are a frame, with at most 1.5 characters of silence between neighbours
  abbrev pub is_timed_frame : List PlacedByte → Bool
  is_timed_frame xs = not (any_next are_apart xs) && is_frame (bytes_of_cut xs)

  -- the bytes of each frame that is read: those between two ends, if they are a frame. The end of
  -- the capture ends the last one.
  abbrev pub frames_by_time : List PlacedByte → List (List PlacedByte)
  frames_by_time xs = filter is_timed_frame (cut_where are_parted xs)
