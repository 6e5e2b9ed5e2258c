-- What no call, and calls one after the other, do to what a consumer that drives a spacer holds.
use Rattle.std.proofs.Common.{◌∙◌, refl, Ok}
use Rattle.yasir_io.specs.declared.sink.Sink.{Ghosts as Sink}
use Rattle.yasir_io.proofs.FlushLaws.{none_flushed, none_flushed_then}
use Rattle.tick_drive.specs.Consumers.{IsNoneDone, AreJoined, is_write_fault}
use Rattle.tick_drive.proofs.Causes.{sinks_none, sinks_then}
use Rattle.line_commands.specs.SpacedLines.{KeepsHeld, spacing}
use Rattle.line_commands.specs.declared.spaced_lines.SpacedLines.{SpacedLines}
use Rattle.line_commands.specs.declared.spacers.LineSpacer.{Ghosts as LineSpacer}

module _ {B O L : Type 0} (b : LineSpacer B) (o : Sink O) (l : Sink L) where
  pub keeps-none : (lines : SpacedLines B O L) → KeepsHeld o l lines lines (Ok tt)
  keeps-none lines = record {
    spacer = refl;
    texts = refl;
    out = refl;
    log = refl;
    sinks = sinks_none (o.faults lines.out.now) (l.faults lines.log.now);
    flushes = none_flushed o l lines.out.now lines.log.now;
  }

  pub holds-none : IsNoneDone (spacing b o l)
  holds-none lines able = keeps-none lines

  pub holds-then : AreJoined (spacing b o l)
  holds-then h0 h1 h2 result first second = record {
    spacer = second.spacer ∙ first.spacer;
    texts = second.texts ∙ first.texts;
    out = second.out ∙ first.out;
    log = second.log ∙ first.log;
    sinks = sinks_then (o.faults h0.out.now) (o.faults h1.out.now) (o.faults h2.out.now)
        (l.faults h0.log.now) (l.faults h1.log.now) (l.faults h2.log.now) (is_write_fault result)
        first.sinks second.sinks;
    flushes = none_flushed_then o l h0.out.now h1.out.now h2.out.now h0.log.now h1.log.now
        h2.log.now first.flushes second.flushes;
  }
