-- Modbus RTU frames (Modbus over Serial Line V1.02): address, function, up to 252 bytes of data,
-- and their CRC.
use Rattle.std.specs.Prelude.{ℕ, ◌≤◌, ◌&&◌, nat_le, Bool, List, length}
use Rattle.line_rules.specs.Endings.{EndsInCheck, ends_in_check}
use Rattle.rtu_frame.specs.Crc.{crc_rtu}

-- Holds if there are at least two bytes, and the last two are the CRC of those before them, low
-- byte first.
abbrev pub HasRightEnding : List ℕ → Type 0
HasRightEnding bytes = EndsInCheck crc_rtu bytes

-- A frame has 4 to 256 bytes: a body, and then the CRC of the body, low byte first.
pub record IsFrame (frame : List ℕ) : Type 0 where
  pub at_least : 4 ≤ length frame
  pub at_most : length frame ≤ 256
  pub ends_in_crc : HasRightEnding frame

-- decides `HasRightEnding`
unfoldable pub has_right_ending : List ℕ → Bool
has_right_ending bytes = ends_in_check crc_rtu bytes

-- decides `IsFrame`
unfoldable pub is_frame : List ℕ → Bool
is_frame frame =
    nat_le 4 (length frame) && nat_le (length frame) 256 && has_right_ending frame
