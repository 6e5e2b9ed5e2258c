-- The bytes of the running or last burst of a line.
use Rattle.std.specs.Prelude.{◌≡◌, ℕ, List, [], Option, Some, None, take}
use Rattle.yasir_ticks.specs.Bursts.{Burst}
use Rattle.yasir_ticks.specs.Ticks.{bytes_in}
use Rattle.yasir_ticks.specs.declared.tick.Tick.{Tick}
use Rattle.frame_ending.specs.SoFar.{last_burst, quiet_so_far}
use Rattle.session_lists.specs.FrameList.{longest_frame}
use Rattle.session_audit.specs.declared.burst_bytes.BurstBytes.{BurstBytes}

-- all bytes of this burst, or none if there is no burst
abbrev pub burst_bytes_in : Option Burst → List ℕ
burst_bytes_in None = []
burst_bytes_in (Some d) = bytes_in d.body

-- all bytes of the line's last burst
abbrev pub burst_bytes_so_far : List Tick → List ℕ
burst_bytes_so_far line = burst_bytes_in (last_burst line)

-- Holds if `value` has taken this line, and keeps the first bytes of the last burst, at most as
-- many as the longest frame has.
pub record BurstFor (value : BurstBytes) (line : List Tick) : Type 0 where
  pub quiet_is : value.quiet ≡ quiet_so_far line
  pub kept : value.bytes.items ≡ take longest_frame (burst_bytes_so_far line)
