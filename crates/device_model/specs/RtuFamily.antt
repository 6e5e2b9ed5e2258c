-- Modbus RTU devices with silences of their own: what they read from a line, and what they keep.
use Rattle.std.specs.Prelude.{◌≡◌, ℕ, suc, ◌<◌, ◌||◌, nat_lt, Bool, true, false, List, length}
use Rattle.std.specs.Prelude.{Option, IfSome, if◌then◌else◌, [], ◌∷◌}
use Rattle.yasir_ticks.specs.Ticks.{bytes_in}
use Rattle.yasir_ticks.specs.Bursts.{Burst, bursts_from}
use Rattle.yasir_ticks.specs.BurstsOf.{IsContiguous}
use Rattle.yasir_ticks.specs.declared.tick.Tick.{Tick}
use Rattle.rtu_frame.specs.Frame.{is_frame}
use Rattle.device_model.specs.declared.rtu_family.RtuFamily.{RtuFamily}
use Rattle.device_model.specs.Frames.{FrameRead}
use Rattle.device_model.specs.Parted.{IsParted}
use Rattle.device_model.specs.RtuReads.{has_silence, frames_read}

-- What a device reads from a line if it takes `cut` silent ticks together for the end of a burst,
-- and allows at most `gap` of them together inside a frame.
abbrev pub rtu_family_reads : ℕ → ℕ → List Tick → List FrameRead
rtu_family_reads cut gap line = frames_read cut (suc gap) (length line) (bursts_from cut 0 line)

-- Whether these ticks can't be a frame, whatever their bytes are: too many silent ones are
-- together, or there are more bytes than a frame has.
abbrev pub is_cut_off_frame : ℕ → List Tick → Bool
is_cut_off_frame gap body = has_silence (suc gap) body || nat_lt 256 (length (bytes_in body))

-- Holds if the device keeps, of the running burst, its first tick, whether it can't be a frame any
-- more, and its bytes if it can.
pub record Keeps (cut gap : ℕ) (value : RtuFamily) (d : Burst) : Type 0 where
  pub contiguous : IsContiguous cut d.body
  pub start_is : value.start ≡ d.start
  pub broken_is : value.broken ≡ is_cut_off_frame gap d.body
  pub bytes_are : value.broken ≡ false → value.bytes.items ≡ bytes_in d.body

-- Holds if the device, which has this cut and this gap, has heard this line.
pub record RtuFamilyStandsFor (cut gap : ℕ) (value : RtuFamily) (line : List Tick) : Type 0 where
  pub some_cut : 0 < cut
  pub cut_is : value.silence.cut ≡ cut
  pub gap_is : value.gap ≡ gap
  pub count : value.ticks ≡ length line
  pub closed : List Burst
  pub running : Option Burst
  pub parted : IsParted cut value.silence.quiet line closed running
  pub kept : IfSome running (λ d. Keeps cut gap value d)

-- how many ticks the device has heard
abbrev pub ticks_heard : RtuFamily → ℕ
ticks_heard value = value.ticks

-- the bytes that the device lends: those that it keeps
abbrev pub bytes_lent : RtuFamily → List ℕ
bytes_lent value = value.bytes.items

-- what is read at the end of a burst, of which these bytes are kept, from this tick on, if it can
-- be a frame
abbrev pub frame_at_end : Bool → ℕ → List ℕ → List FrameRead
frame_at_end true start x = []
frame_at_end false start x = if is_frame x then record { start = start; frame = x } ∷ [] else []
