-- The station that a frame names.
use Rattle.std.specs.Prelude.{ℕ, ◌+◌, ◌*◌, List, slice_index_or}
use Rattle.station_boxes.specs.declared.naming.Naming.{Naming}
use Rattle.station_boxes.specs.declared.naming.Naming.TheVariants.{FirstByte, Destination, Source}

-- byte i of a frame, or 0 if the frame is shorter
abbrev pub byte_of : List ℕ → ℕ → ℕ
byte_of x i = slice_index_or x i 0

-- how many bytes of a frame come before its station is known
abbrev pub name_len : Naming → ℕ
name_len FirstByte = 1
name_len Destination = 6
name_len Source = 8

-- The station that a frame names: by the first byte of a frame of Modbus RTU (Modbus over Serial
-- Line V1.02), or by the destination or the source in the header of a frame of DNP3 (IEEE 1815), low
-- byte first. A byte that hasn't come counts as 0.
abbrev pub name_in : Naming → List ℕ → ℕ
name_in FirstByte x = byte_of x 0
name_in Destination x = byte_of x 4 + 256 * byte_of x 5
name_in Source x = byte_of x 6 + 256 * byte_of x 7
