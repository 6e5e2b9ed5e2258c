-- What a transmitter forwards as a frame.
use Rattle.std.specs.Prelude.{ℕ, ◌+◌, nat_le, ◌&&◌, not, Bool, List, length, map, filter}
use Rattle.line_rules.specs.Rules.{Rules}
use Rattle.frame_ending.specs.LiveBytes.{live_bytes, has_extra}
use Rattle.rtu_frame.specs.Rules.{rtu_rules}
use Rattle.yasir_ticks.specs.Bursts.{Burst, bursts, end_of}
use Rattle.yasir_ticks.specs.declared.TheConstants.{T3_5_TICKS}
use Rattle.yasir_ticks.specs.declared.tick.Tick.{Tick}
use Rattle.device_model.specs.Frames.{FrameRead}

-- whether all bytes of the burst are live, and they are a frame
abbrev pub is_forwarded : Rules → Burst → Bool
is_forwarded rules d = not (has_extra rules d) && rules.is_frame (live_bytes rules d)

-- the live bytes of a burst, as a frame
abbrev pub frame_forwarded : Rules → Burst → FrameRead
frame_forwarded rules d = record { start = d.start; frame = live_bytes rules d }

-- Whether the burst is forwarded as a frame, and four silent ticks follow it in a line of `m`
-- ticks.
abbrev pub is_ended_frame : Rules → ℕ → Burst → Bool
is_ended_frame rules m d = nat_le (end_of d + T3_5_TICKS) m && is_forwarded rules d

-- the frames that are forwarded of these bursts in a line of `m` ticks
abbrev pub frames_forwarded : Rules → ℕ → List Burst → List FrameRead
frames_forwarded rules m ds = map (frame_forwarded rules) (filter (is_ended_frame rules m) ds)

-- the frames that are forwarded of a line of Modbus RTU
abbrev pub rtu_forwarded : List Tick → List FrameRead
rtu_forwarded line = frames_forwarded rtu_rules (length line) (bursts line)
