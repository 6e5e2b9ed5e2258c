-- The laws of what calls do, one after the other, to what a printer of frames holds.
use Rattle.std.proofs.Common.{◌∙◌, refl}
use Rattle.yasir_io.specs.declared.sink.Sink.{Ghosts as Sink}
use Rattle.device_model.specs.declared.device.Device.{Ghosts as Device}
use Rattle.tick_drive.specs.Consumers.{IsNoneDone, AreJoined}
use Rattle.tick_drive.proofs.Causes.{cause_none, cause_then}
use Rattle.line_commands.specs.FrameLines.{printing}

module _ {V O : Type 0} (device : Device V) (o : Sink O) where
  pub holds-none : IsNoneDone (printing device o)
  holds-none printer able = record {
    device = refl;
    lines = refl;
    out = refl;
    cause = cause_none tt (o.faults printer.out.now);
    flushes = refl;
  }

  pub holds-then : AreJoined (printing device o)
  holds-then a b c result first second = record {
    device = second.device ∙ first.device;
    lines = second.lines ∙ first.lines;
    out = second.out ∙ first.out;
    cause = cause_then tt _ _ _ result first.cause second.cause;
    flushes = second.flushes ∙ first.flushes;
  }
