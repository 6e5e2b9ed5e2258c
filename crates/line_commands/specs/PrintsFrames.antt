-- What is printed for the frames that a device reads from an input, and when each status comes.
use Rattle.std.specs.Prelude.{◌≡◌, ℕ, List, Option}
use Rattle.std.specs.Io.KnownBytes.{append_known}
use Rattle.yasir_io.specs.Output.{Buffered, GotPrefix}
use Rattle.yasir_ticks.specs.declared.tick.Tick.{Tick}
use Rattle.device_model.specs.Frames.{FrameRead}
use Rattle.tick_drive.specs.declared.end.End.{End}
use Rattle.command_ends.specs.declared.status.Status.{Status}
use Rattle.line_commands.specs.OverInput.{DrivesOver, RunsOver}
use Rattle.command_ends.specs.FrameLine.{frame_lines}

-- how many silent ticks follow a whole input, so that its last burst ends
abbrev pub read_rest : ℕ
read_rest = 4

module _ (reads : List Tick → List FrameRead) (out_before out_now : Option (List ℕ)) where
  -- `out` has got the lines of what the device reads from these ticks.
  abbrev pub HasPrinted : List Tick → Type 0
  HasPrinted line = out_now ≡ append_known out_before (frame_lines (reads line))

  -- `out` has got a front of these lines.
  abbrev pub HasPrintedFront : List Tick → Type 0
  HasPrintedFront line = GotPrefix out_before out_now (frame_lines (reads line))

  -- `out` has got these lines except for the bytes that wait.
  abbrev pub IsPrinting : List ℕ → List Tick → Type 0
  IsPrinting waits line = Buffered out_before out_now waits (frame_lines (reads line))

module _ (reads : List Tick → List FrameRead)
    (in_before in_now out_before out_now : Option (List ℕ)) where
  -- Holds if what the run took of its input, and what `out` has got, are as the status says.
  abbrev pub PrintsFrames : Status → Type 0
  PrintsFrames = RunsOver read_rest in_before in_now (HasPrinted reads out_before out_now)
      (HasPrintedFront reads out_before out_now) (λ status. ⊥)

  -- Holds if the drive over the input ended like this, and the lines of the ticks that it took are
  -- on their way to `out`.
  abbrev pub DrivesFrames : List ℕ → End → Type 0
  DrivesFrames waits = DrivesOver read_rest in_before in_now
      (IsPrinting reads out_before out_now waits) (λ stop. HasPrintedFront reads out_before out_now)
