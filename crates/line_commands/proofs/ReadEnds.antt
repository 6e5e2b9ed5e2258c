-- How the run of `read` ends: from the end of its input to its status.
use Rattle.device_model.specs.declared.device.Device.{Ghosts as Device}
use Rattle.line_commands.proofs.OverInput.{driven_over}
use Rattle.line_commands.specs.FrameLines.{PrintsReads, printing}
use Rattle.command_ends.specs.FrameLine.{frame_lines}
use Rattle.line_commands.specs.PrintsFrames.{DrivesFrames, HasPrintedFront, IsPrinting, read_rest}
use Rattle.line_commands.specs.declared.frame_lines.FrameLines.{FrameLines}
use Rattle.std.proofs.Common.{◌≡◌, ◌∙◌, ℕ, List, [], Option, ap, sym, append-nil}
use Rattle.tick_drive.specs.Drive.{Drives}
use Rattle.tick_drive.specs.declared.end.End.{End}
use Rattle.yasir_io.proofs.OutputLemmas.{append_known-nil}
use Rattle.yasir_io.specs.{TextBuffer.waiting_bytes, declared.sink.Sink.Ghosts as Sink}
use Rattle.yasir_ticks.specs.Ticks.{ticks_in}

module _ {V O : Type 0} (device : Device V) (o : Sink O)
    (before now : Option (List ℕ)) (old new : FrameLines V O)
    (hears : device.stands old.device.now []) (nothing : device.reads [] ≡ [])
    (empty : waiting_bytes old.lines.now ≡ []) where
  start : PrintsReads device o old (o.held old.out.now) []
  start = record {
    hears = hears;
    lines = record {
      front = [];
      got = sym (append_known-nil (o.held old.out.now));
      all = ap frame_lines nothing ∙ sym empty;
    };
  }

  pub drives_frames : (end : End)
      → Drives (printing device o) 0 read_rest before now old new end
      → DrivesFrames device.reads before now (o.held old.out.now) (o.held new.out.now)
      (waiting_bytes new.lines.now) end
  drives_frames end driven = driven_over read_rest before now (printing device o) old new
      (o.held old.out.now) start
      (IsPrinting device.reads (o.held old.out.now) (o.held new.out.now)
      (waiting_bytes new.lines.now))
      (λ stop. HasPrintedFront device.reads (o.held old.out.now) (o.held new.out.now))
      end driven (λ items at. at.lines) (λ stop items at. record {
        early = ticks_in items;
        later = [];
        is = append-nil (ticks_in items);
        makes = at.lines;
      })
