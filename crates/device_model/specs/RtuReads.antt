-- What a Modbus RTU device reads from a line: a burst that four silent ticks follow, in which no
-- two adjacent ticks are silent, and whose bytes are a frame. Modbus over Serial Line V1.02 parts
-- frames by 3.5 character times of silence, and allows at most 1.5 inside one; the rounding to
-- whole ticks is this project's choice.
use Rattle.std.specs.Prelude.{ℕ, zero, suc, ◌+◌, nat_le, ◌&&◌, ◌||◌, not, Bool, true, false, List}
use Rattle.std.specs.Prelude.{[], ◌∷◌, length, map, filter}
use Rattle.rtu_frame.specs.Frame.{is_frame}
use Rattle.yasir_ticks.specs.Ticks.{bytes_in}
use Rattle.yasir_ticks.specs.Bursts.{Burst, bursts, end_of}
use Rattle.yasir_ticks.specs.declared.TheConstants.{T3_5_TICKS, T1_5_TICKS}
use Rattle.yasir_ticks.specs.declared.tick.Tick.{Tick}
use Rattle.yasir_ticks.specs.declared.tick.Tick.TheVariants.{Silent, Byte}
use Rattle.device_model.specs.Frames.{FrameRead}

-- whether the ticks begin with `k` silent ones
abbrev pub begins_silent : ℕ → List Tick → Bool
begins_silent zero l = true
begins_silent (suc k) [] = false
begins_silent (suc k) (Silent ∷ l) = begins_silent k l
begins_silent (suc k) (Byte b ∷ l) = false

-- whether `k` silent ticks are together somewhere
unfoldable pub has_silence : ℕ → List Tick → Bool
has_silence k [] = false
has_silence k (t ∷ l) = begins_silent k (t ∷ l) || has_silence k l

-- whether nowhere in these ticks `pause` silent ones are together, and their bytes are a frame
abbrev pub is_frame_body : ℕ → List Tick → Bool
is_frame_body pause body = not (has_silence pause body) && is_frame (bytes_in body)

-- Whether the burst is read from a line of `m` ticks: `cut` silent ticks follow it there (no later
-- burst starts before they have passed), and its ticks are a frame.
abbrev pub is_read : ℕ → ℕ → ℕ → Burst → Bool
is_read cut pause m d = nat_le (end_of d + cut) m && is_frame_body pause d.body

-- all bytes of a burst, as a frame
abbrev pub frame_in : Burst → FrameRead
frame_in d = record { start = d.start; frame = bytes_in d.body }

-- the frames of these bursts that are read from a line of `m` ticks
abbrev pub frames_read : ℕ → ℕ → ℕ → List Burst → List FrameRead
frames_read cut pause m ds = map frame_in (filter (is_read cut pause m) ds)

-- the frames that are read from a line
abbrev pub rtu_reads : List Tick → List FrameRead
rtu_reads line = frames_read T3_5_TICKS T1_5_TICKS (length line) (bursts line)
