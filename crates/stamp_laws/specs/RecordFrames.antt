-- What is read of a capture whose records are taken for frames: each record that is a Modbus RTU
-- frame, whatever its time.
use Rattle.std.specs.Prelude.{Bool, List, filter}
use Rattle.rtu_frame.specs.Frame.{is_frame}
use Rattle.line_stamps.specs.Places.{PlacedByte}
use Rattle.stamp_laws.specs.Cuts.{cut_where, bytes_of_cut}

-- whether the second of two bytes begins a record
abbrev pub begins_record : PlacedByte → PlacedByte → Bool
begins_record x y = y.first

-- the bytes of each record that is a frame
abbrev pub records_that_are_frames : List PlacedByte → List (List PlacedByte)
records_that_are_frames xs = filter (λ z. is_frame (bytes_of_cut z)) (cut_where begins_record xs)
