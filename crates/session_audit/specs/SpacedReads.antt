-- What a device behind a spacer reads.
use Rattle.std.specs.Prelude.{ℕ, List}
use Rattle.yasir_ticks.specs.declared.tick.Tick.{Tick}
use Rattle.device_model.specs.Frames.{FrameRead}
use Rattle.device_model.specs.declared.device.Device.{Ghosts as Device}
use Rattle.line_spacer.specs.Spacing.{spaced_line}
use Rattle.line_spacer.specs.Stands.{SpacerStandsFor}
use Rattle.session_lists.specs.ReplayLists.{Listens}
use Rattle.session_audit.specs.declared.spaced_reads.SpacedReads.{SpacedReads}

-- how many frames may wait in the spacer behind a receiver, as many as the command `space` lets wait
abbrev pub most_waiting : ℕ
most_waiting = 64

-- what a device reads of a line's spaced line, if the spacer hears as this device does
abbrev pub spaced_reads : (List Tick → List FrameRead) → ℕ → List Tick → List FrameRead
spaced_reads reads gap line = reads (spaced_line reads gap most_waiting line)

-- Holds if the spacer has heard this line, the device behind it has heard the spaced line, and the
-- list holds what the device has read.
pub record SpacesReads {V : Type 0} (device : Device V) {GAP : ℕ} (value : SpacedReads V GAP)
    (line : List Tick) : Type 0 where
  pub spaces : SpacerStandsFor device most_waiting value.spacer line
  pub reads : Listens device value.device value.frames
      (spaced_line device.reads GAP most_waiting line)
