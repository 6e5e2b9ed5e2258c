-- What is said of a consumer that prints a line for each frame that its device reads.
use Rattle.std.specs.Prelude.{◌≡◌, ℕ, List, Option, ⊤, Result}
use Rattle.yasir_io.specs.Causes.{HasCause}
use Rattle.yasir_io.specs.Flushed.{IsNotFlushed}
use Rattle.yasir_io.specs.Output.{Buffered, GotPrefix}
use Rattle.yasir_io.specs.TextBuffer.{waiting_bytes}
use Rattle.yasir_io.specs.declared.sink.Sink.{Ghosts as Sink}
use Rattle.yasir_ticks.specs.Ticks.{ticks_in}
use Rattle.yasir_ticks.specs.declared.tick.Tick.{Tick}
use Rattle.device_model.specs.declared.device.Device.{Ghosts as Device}
use Rattle.tick_drive.specs.Consumers.{Consuming}
use Rattle.tick_drive.specs.declared.consumer.Stop.{Stop}
use Rattle.tick_drive.specs.declared.consumer.Stop.TheVariants.{WriteFault}
use Rattle.command_ends.specs.FrameLine.{frame_lines}
use Rattle.line_commands.specs.declared.frame_lines.FrameLines.{FrameLines}

-- Holds if the printer still holds the same objects. Its sink failed if the result says so, and
-- wasn't flushed.
pub record KeepsHeld {V O : Type 0} (o : Sink O) (old new : FrameLines V O)
    (result : Result (Unit {0}) Stop) : Type 0 where
  pub device : new.device.ghost_name ≡ old.device.ghost_name
  pub lines : new.lines.ghost_name ≡ old.lines.ghost_name
  pub out : new.out.ghost_name ≡ old.out.ghost_name
  pub cause : HasCause (o.faults old.out.now) (o.faults new.out.now) result
  pub flushes : IsNotFlushed o old.out.now new.out.now

module _ {V O : Type 0} (device : Device V) (o : Sink O) where
  -- Holds if the device has heard these ticks, and the lines of what it read are on their way to
  -- `out`, which held `start` at first.
  pub record PrintsReads (printer : FrameLines V O) (start : Option (List ℕ)) (line : List Tick) :
      Type 0 where
    pub hears : device.stands printer.device.now line
    pub lines : Buffered start (o.held printer.out.now) (waiting_bytes printer.lines.now)
        (frame_lines (device.reads line))

  -- Holds if a write failed at the last of these ticks, and `out` has got a front of the lines.
  pub record StopsPrinting (printer : FrameLines V O) (stop : Stop) (start : Option (List ℕ))
      (line : List Tick) : Type 0 where
    pub why : stop ≡ WriteFault
    pub lines : GotPrefix start (o.held printer.out.now) (frame_lines (device.reads line))

  -- What is said of such a printer, as the loop over an input needs it.
  abbrev pub printing : Consuming (FrameLines V O)
  printing = record {
    Origin = Option (List ℕ);
    stands = λ printer start items. PrintsReads printer start (ticks_in items);
    stopped = λ printer stop start items. StopsPrinting printer stop start (ticks_in items);
    taken = λ printer. device.taken printer.device.now;
    able = λ printer. ⊤;
    went = KeepsHeld o;
  }
