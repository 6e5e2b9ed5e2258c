-- The frames of Modbus RTU that are drawn: the first draw says how long the frame is, and each one
-- after it gives a byte of what comes before the CRC.
use Rattle.std.specs.Prelude.{ℕ, ◌+◌, ◌-◌, ◌%◌, List, ◌++◌}
use Rattle.line_rules.specs.Bytes.{low_first}
use Rattle.rtu_frame.specs.Crc.{crc_rtu}
use Rattle.trial_session.specs.Draws.{draw_state_after, nth_drawn, bytes_drawn}
use Rattle.trial_session.specs.DrawnFrames.{Drawing}

-- how many bytes the frame has: 4 to 256
abbrev pub rtu_frame_len : ℕ → ℕ
rtu_frame_len x = 4 + nth_drawn 1 x % 253

-- all bytes of the frame but its CRC
abbrev pub rtu_body : ℕ → List ℕ
rtu_body x = bytes_drawn (rtu_frame_len x - 2) (draw_state_after 1 x)

-- how a frame of Modbus RTU is drawn
abbrev pub rtu_drawing : Drawing
rtu_drawing = record {
  frame = λ x. rtu_body x ++ low_first (crc_rtu (rtu_body x));
  draws = λ x. 1 + (rtu_frame_len x - 2);
}
