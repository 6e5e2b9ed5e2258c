-- The bytes of a capture in which a device hunts for frames.
use Rattle.device_model.specs.Hunt.{Timed}
use Rattle.line_stamps.specs.Places.{PlacedByte}

-- a byte that is placed on a line, with its tick
abbrev pub timed_byte : PlacedByte → Timed
timed_byte x = record { tick = x.spot.tick; byte = x.byte }
