-- How a frame is looked up at the place of its number, among frames that are numbered one after the
-- other.
use Rattle.std.specs.Prelude.{ℕ, ◌-◌, ◌&&◌, Bool, List, length, nat_lt, slice_index_or, bytes_eq}
use Rattle.link_format.specs.NumberedFrame.{NumberedFrame}

-- the place of a number among those above the floor, counted from 0
abbrev pub place_in_lists : ℕ → ℕ → ℕ
place_in_lists floor number = number - floor - 1

-- whether there is a frame with the bytes of this one at the place of this one's number
abbrev pub stands_at_its_number : ℕ → List NumberedFrame → NumberedFrame → Bool
stands_at_its_number floor frames f =
    nat_lt floor f.number && nat_lt (place_in_lists floor f.number) (length frames)
    && bytes_eq (slice_index_or frames (place_in_lists floor f.number) f).frame f.frame
